use Rattle.std.proofs.Common.{sym, ap, ◌∙◌}
use Rattle.std.specs.Option.{option_copied}
use Rattle.ur_source.specs.Reading.{Cons, label_number}
use Rattle.ur_unfold_pieces.proofs.Scoped.{scope_cons}
use Rattle.ur_unfold_pieces.proofs.pieces_reading.name_in.Goals as goal

pub returns-in_ok-name-in-Some : goal.returns-in_ok-name-in-Some
returns-in_ok-name-in-Some c = λ around at.
    c.in_ok-name-in-Some.ensures ∙ ap (λ (cs : Cons). label_number c.args.table.now.typed.now.names cs c.args.label.now)
    (scope_cons c.args.table.now c.args.scope around c.in-Some.within.now (sym c.get.ensures.value ∙ ap option_copied c.in-Some.is) at)
