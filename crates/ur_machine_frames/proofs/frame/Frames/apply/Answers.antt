use Rattle.ur_terms.specs.Run.{outcome_of}
use Rattle.ur_machine_frames.specs.Plays.{until}
use Rattle.ur_machine_frames.specs.Steps.{applying}
use Rattle.ur_machine_frames.proofs.Leading.{not_stuck}
use Rattle.ur_machine_frames.proofs.Views.{stuck_applied}
use Rattle.ur_machine_frames.proofs.frame.Frames.apply.Goals as goal

pub unreachable-requires : goal.unreachable-requires
unreachable-requires g c = not_stuck c.args.functions.now c.args.self.now (applying c.args.functions.now c.args.place.now c.args.args) c.requires.safe
    (stuck_applied until (outcome_of until c.args.functions.now) c.args.place.now c.args.self.now.values c.args.args _ c.in_default.not-Make c.in_default.not-Call c.in_default.not-Let)
