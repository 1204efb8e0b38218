use Rattle.ur_machine_frames.proofs.Stacks.{popped}
use Rattle.ur_machine_frames.proofs.stack.Stack.drop_nearest.Goals as goal

pub loop-preserved : goal.loop-preserved
loop-preserved g c = popped c.loop.counter c.args.self.now c.loop.self c.pop.new.self c.pop.result c.loop.invariant c.pop.ensures
