use Rattle.std.proofs.Common.{sym, ◌∙◌}
use Rattle.ur_kinds.specs.Keys.{key_of}
use Rattle.ur_kinds.proofs.Values.{is-last, not-last}
use Rattle.ur_kinds.proofs.state.latest.Goals as goal

pub returns-then-is_value : goal.returns-then-is_value
returns-then-is_value c =
    sym (c.loop-i.invariant ∙ is-last (key_of c.args.key.now) c.args.values.now c.loop-i.i c.index-values-count.result c.loop-i-test.true c.index-values-count.is (sym c.is_value.ensures ∙ c.if-is_value.true))

pub loop-i-preserved : goal.loop-i-preserved
loop-i-preserved c =
    c.loop-i.invariant ∙ not-last (key_of c.args.key.now) c.args.values.now c.loop-i.i c.index-values-count.result c.loop-i-test.true c.index-values-count.is (sym c.is_value.ensures ∙ c.if-is_value.false)
