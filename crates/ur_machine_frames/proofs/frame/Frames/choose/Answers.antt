use Rattle.std.proofs.Common.{true, false, Some, sym, ap, ◌∙◌}
use Rattle.ur_terms.specs.Values.{as_bool}
use Rattle.ur_terms.specs.Run.{outcome_of}
use Rattle.ur_machine_frames.specs.declared.frame.Frame.TheVariants as frame
use Rattle.ur_machine_frames.specs.Plays.{until}
use Rattle.ur_machine_frames.specs.Steps.{going}
use Rattle.ur_machine_frames.proofs.Leading.{not_stuck}
use Rattle.ur_machine_frames.proofs.Descending.{chooses}
use Rattle.ur_machine_frames.proofs.Views.{stuck_choice, stuck_choice_value, no_bool}
use Rattle.ur_machine_frames.proofs.frame.Frames.choose.Goals as goal

pub unreachable-requires : goal.unreachable-requires
unreachable-requires c = not_stuck c.args.functions.now c.args.self.now (going c.args.functions.now frame.Condition c.args.place.now c.args.value) c.requires.safe
    (stuck_choice_value until (outcome_of until c.args.functions.now) c.args.place.now c.args.self.now.values c.args.value _ (no_bool c.args.value c.in_default.not-Bool))

pub unreachable-requires-in_default-place : goal.unreachable-requires-in_default-place
unreachable-requires-in_default-place c = not_stuck c.args.functions.now c.args.self.now (going c.args.functions.now frame.Condition c.args.place.now c.args.value) c.requires.safe
    (stuck_choice until (outcome_of until c.args.functions.now) c.args.place.now c.args.self.now.values c.args.value _ c.in_default-place.not-If)

pub returns-then-truth-clause-leads : goal.returns-then-truth-clause-leads
returns-then-truth-clause-leads c = chooses c.args.functions.now c.args.self.now c.descend.new.self c.args.place.now _ _ _ c.args.value true c.get.result.now c.descend.result
    c.requires.stands c.in-If.is (ap as_bool c.in-Bool.is ∙ ap Some c.if-truth.true) (sym c.get.ensures) c.descend.ensures.descends

pub returns-else-truth-clause-leads : goal.returns-else-truth-clause-leads
returns-else-truth-clause-leads c = chooses c.args.functions.now c.args.self.now c.descend-else-truth.new.self c.args.place.now _ _ _ c.args.value false c.get-else-truth.result.now c.descend-else-truth.result
    c.requires.stands c.in-If.is (ap as_bool c.in-Bool.is ∙ ap Some c.if-truth.false) (sym c.get-else-truth.ensures) c.descend-else-truth.ensures.descends
