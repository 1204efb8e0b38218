use Rattle.std.proofs.Common.{ap, sym, ◌∙◌, arith}
use Rattle.std.specs.Ordering.{is_eq}
use Rattle.ur_values.specs.KeyOrder.{key_cmp}
use Rattle.ur_values.proofs.Taken.{none_taken, untaken_more, taken_here, untaken_end}
use Rattle.ur_values.proofs.keys.is_taken.Goals as goal

pub loop-other-init : goal.loop-other-init
loop-other-init c = none_taken c.args.key.now c.args.row.now c.args.rows.now

pub returns-then-is_eq : goal.returns-then-is_eq
returns-then-is_eq c =
    taken_here c.args.key.now c.args.row.now c.args.rows.now c.loop-other.other-index c.other-item.result c.is_eq.result c.loop-other-test.true c.other-item.is
    (c.is_eq.ensures ∙ ap is_eq (c.compare_at.ensures ∙ ap (λ r. key_cmp c.args.key.now r c.args.row.now) c.get-values.ensures)) c.if-is_eq.true

pub loop-other-preserved : goal.loop-other-preserved
loop-other-preserved c =
    untaken_more c.args.key.now c.args.row.now c.args.rows.now c.loop-other.other-index c.other-item.result c.is_eq.result c.loop-other-test.true c.other-item.is
    (c.is_eq.ensures ∙ ap is_eq (c.compare_at.ensures ∙ ap (λ r. key_cmp c.args.key.now r c.args.row.now) c.get-values.ensures))
    c.if-is_eq.false c.loop-other.invariant

pub returns : goal.returns
returns c = untaken_end c.args.key.now c.args.row.now c.args.rows.now c.loop-other.other-index c.loop-other-test.false c.loop-other.invariant
