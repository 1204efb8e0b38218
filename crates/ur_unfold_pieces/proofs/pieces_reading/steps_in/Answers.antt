use Rattle.std.proofs.Common.{refl, sym, ap, subst, ◌∙◌}
use Rattle.std.specs.Option.{option_copied}
use Rattle.ur_source.specs.Reading.{Cons, fold_steps}
use Rattle.ur_unfold_static.specs.Scopes.{StepsMayBe}
use Rattle.ur_unfold_pieces.proofs.Staying.{stays_so}
use Rattle.ur_unfold_pieces.proofs.Scoped.{closing_stays, scope_cons}
use Rattle.ur_unfold_pieces.proofs.pieces_reading.steps_in.Goals as goal

pub returns-in_err-steps-in-Some-clause-stays : goal.returns-in_err-steps-in-Some-clause-stays
returns-in_err-steps-in-Some-clause-stays c = closing_stays c.args.table.now _ refl refl c.in_err-steps-in-Some.ensures.grows refl refl refl

pub returns-in-None-clause-stays : goal.returns-in-None-clause-stays
returns-in-None-clause-stays c = stays_so c.args.table.now

pub returns-in_ok-steps-in-Some-clause-stays : goal.returns-in_ok-steps-in-Some-clause-stays
returns-in_ok-steps-in-Some-clause-stays c = closing_stays c.args.table.now _ refl refl c.in_ok-steps-in-Some.ensures.grows refl refl refl

pub returns-in_ok-steps-in-Some-clause-steps : goal.returns-in_ok-steps-in-Some-clause-steps
returns-in_ok-steps-in-Some-clause-steps c = λ around at.
    subst (λ (cs : Cons). StepsMayBe c.fold_steps.new.closing c.in_ok-steps-in-Some.steps (fold_steps cs c.args.row.now))
    (scope_cons c.args.table.now c.args.scope around c.in-Some.within.now (sym c.get.ensures.value ∙ ap option_copied c.in-Some.is) at) c.in_ok-steps-in-Some.ensures.steps
