-- What is left of the key decides.
use Rattle.std.proofs.Common.{◌≡◌, drop}
use Rattle.ur_values.specs.KeyOrder.{key_cmp}
use Rattle.ur_values.proofs.keys.compare_at.Given as goal

abbrev pub invariant-loop-column : goal.invariant-loop-column
invariant-loop-column l = key_cmp (drop l.column-index l.key) l.a l.b ≡ key_cmp l.key l.a l.b
