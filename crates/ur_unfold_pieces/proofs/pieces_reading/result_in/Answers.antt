use Rattle.std.proofs.Common.{sym, ap, ◌∙◌}
use Rattle.std.specs.Option.{option_copied}
use Rattle.ur_source.specs.Reading.{Cons, result_type}
use Rattle.ur_unfold_pieces.proofs.Scoped.{scope_cons}
use Rattle.ur_unfold_pieces.proofs.pieces_reading.result_in.Goals as goal

pub returns-in_ok-of-in-Some : goal.returns-in_ok-of-in-Some
returns-in_ok-of-in-Some c = λ around at.
    c.in_ok-of-in-Some.ensures ∙ ap (λ (cs : Cons). (result_type c.args.table.now.typed.now.names cs c.args.t.now).1)
    (scope_cons c.args.table.now c.args.scope around c.in-Some.within.now (sym c.get.ensures.value ∙ ap option_copied c.in-Some.is) at)
