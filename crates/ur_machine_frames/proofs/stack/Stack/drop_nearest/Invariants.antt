use Rattle.std.proofs.Common.{◌≡◌, drop}
use Rattle.ur_machine_frames.proofs.stack.Stack.drop_nearest.Given as goal

abbrev pub invariant-loop : goal.invariant-loop
invariant-loop g l = l.self ≡ drop l.counter l.initial.self
