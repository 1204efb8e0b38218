use Rattle.std.proofs.Common.{take}
use Rattle.ur_emit.specs.Slots.{WritesArguments}
use Rattle.ur_emit.proofs.links.push_arguments.Given as goal

abbrev pub invariant-loop-arg : goal.invariant-loop-arg
invariant-loop-arg l = WritesArguments l.slots (take l.arg-index l.args) l.initial.out l.out
