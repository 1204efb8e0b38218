use Rattle.ur_terms.specs.Run.{outcome_of}
use Rattle.ur_machine_frames.specs.declared.frame.Frame.TheVariants as frame
use Rattle.ur_machine_frames.specs.Plays.{until}
use Rattle.ur_machine_frames.specs.Steps.{going}
use Rattle.ur_machine_frames.proofs.Leading.{not_stuck}
use Rattle.ur_machine_frames.proofs.Views.{stuck_rows, stuck_rows_value, no_list}
use Rattle.ur_machine_frames.proofs.frame.Frames.each.Goals as goal

pub unreachable-requires : goal.unreachable-requires
unreachable-requires g c = not_stuck c.args.functions.now c.args.self.now (going c.args.functions.now frame.Rows c.args.place.now c.args.value) c.requires.safe
    (stuck_rows_value until (outcome_of until c.args.functions.now) c.args.place.now c.args.self.now.values c.args.value _ (no_list c.args.value c.in_default.not-Many))

pub unreachable-requires-in_default-place : goal.unreachable-requires-in_default-place
unreachable-requires-in_default-place g c = not_stuck c.args.functions.now c.args.self.now (going c.args.functions.now frame.Rows c.args.place.now c.args.value) c.requires.safe
    (stuck_rows until (outcome_of until c.args.functions.now) c.args.place.now c.args.self.now.values c.args.value _ c.in_default-place.not-Each)
