use Rattle.std.proofs.Common.{rules, ◌≡◌}
use Rattle.ur_meaning.specs.declared.head.Head.TheVariants as head
use Rattle.ur_meaning.specs.Opening.{ShowsIt}
use Rattle.ur_meaning.proofs.Going.{exit, seen_first, seen_more, seen_stops}
use Rattle.ur_meaning.proofs.terms.whole.Goals as goal

pub loop-turn-init : goal.loop-turn-init
loop-turn-init g c =
    seen_first g.T.Table.language g.T.Table.instances g.T.Table.stands g.T.Table.sound c.args.table.now c.form.new.self c.args.piece.now c.in_ok-opened.opened c.form.ensures.lasts c.in_ok-opened.ensures.form

pub returns-in_err-opened-2-clause-shown : goal.returns-in_err-opened-2-clause-shown
returns-in_err-opened-2-clause-shown g c =
    let same : c.loop-turn.opened.head ≡ head.Same = search rules in
    λ i at.
    exit (λ r. ShowsIt (g.T.Table.language c.args.table.now) g.T.Table.large g.T.Table.named (g.T.Table.stands c.only_part.new.table) (g.T.Table.instances c.args.table.now)
    (g.T.Table.instances c.only_part.new.table) i r)
    c.from_residual-in_err-opened-2.result c.in_err-opened-2.field-0.0 c.from_residual-in_err-opened-2.ensures.1
    (seen_stops g.T.Table.language g.T.Table.instances g.T.Table.stands g.T.Table.sound g.T.Table.large g.T.Table.named c.args.table.now c.loop-turn.table c.only_part.new.table c.args.piece.now c.loop-turn.opened
    c.in_err-opened-2.field-0.0 c.loop-turn.invariant same c.in_err-opened-2.ensures.form i at)

pub loop-turn-preserved : goal.loop-turn-preserved
loop-turn-preserved g c =
    let same : c.loop-turn.opened.head ≡ head.Same = search rules in
    seen_more g.T.Table.language g.T.Table.instances g.T.Table.stands g.T.Table.sound c.args.table.now c.loop-turn.table c.only_part.new.table c.args.piece.now c.loop-turn.opened
    c.in_ok-opened-2.opened c.loop-turn.invariant same c.only_part.ensures.lasts c.in_ok-opened-2.ensures.form
