-- No name so far is the one that is looked for.
use Rattle.std.proofs.Common.{take, Contains}
use Rattle.ur_verify_operations.proofs.fields.is_among.Given as goal

abbrev pub invariant-loop-other : goal.invariant-loop-other
invariant-loop-other l = Contains (take l.other-index l.names) l.name → ⊥
