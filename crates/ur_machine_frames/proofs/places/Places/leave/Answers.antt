use Rattle.std.proofs.Common.{◌∙◌}
use Rattle.ur_machine_frames.specs.Steps.{below}
use Rattle.ur_machine_frames.proofs.Placing.{popped_led, nearest_place}
use Rattle.ur_machine_frames.proofs.places.Places.leave.Goals as goal

pub returns-in-Some-clause-place : goal.returns-in-Some-clause-place
returns-in-Some-clause-place c = nearest_place c.args.functions.now (below c.args.frames.now) c.pop.new.self c.in-Some.place (c.in-Some.ensures ∙ c.get.ensures)
    (popped_led c.args.functions.now c.args.frames.now c.args.self.now.known c.pop.new.self c.pop.result c.pop.ensures c.requires)
