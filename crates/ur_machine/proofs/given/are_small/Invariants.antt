-- The size and the nesting of the values so far, with those of the list.
use Rattle.std.proofs.Common.{◌≡◌, ◌+◌, min, take}
use Rattle.ur_values.specs.Size.{nestings, sizes}
use Rattle.ur_machine.proofs.given.are_small.Given as goal

abbrev pub invariant-loop-value : goal.invariant-loop-value
invariant-loop-value l = (l.size ≡ min (32 + sizes (take l.value-index l.values)) 18446744073709551615) × (l.nesting ≡ min (nestings (take l.value-index l.values)) 4294967295)
