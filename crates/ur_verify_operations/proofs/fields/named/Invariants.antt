-- The names so far with their types.
use Rattle.std.proofs.Common.{◌≡◌, take}
use Rattle.ur_verify_operations.specs.Fields.{named}
use Rattle.ur_verify_operations.proofs.fields.named.Given as goal

abbrev pub invariant-loop-i : goal.invariant-loop-i
invariant-loop-i l = l.made ≡ named (take l.i l.names) (take l.i l.ts)
