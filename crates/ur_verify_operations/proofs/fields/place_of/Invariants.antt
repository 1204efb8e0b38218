-- The fields so far have names that are not greater.
use Rattle.std.proofs.Common.{◌≡◌, ◌+◌, drop}
use Rattle.ur_verify_operations.specs.Fields.{place_of}
use Rattle.ur_verify_operations.proofs.fields.place_of.Given as goal

abbrev pub invariant-loop-i : goal.invariant-loop-i
invariant-loop-i l = l.i + place_of l.name (drop l.i l.fields) ≡ place_of l.name l.fields
