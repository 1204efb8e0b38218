-- No key so far repeats.
use Rattle.std.proofs.Common.{◌≡◌, drop, position, option_map, ◌+◌, map}
use Rattle.ur_values.specs.Keys.{key_of, repeats}
use Rattle.ur_values.specs.KeyOrder.{lent_rows}
use Rattle.ur_values.proofs.keys.repeated_key.Given as goal

abbrev pub invariant-loop-i : goal.invariant-loop-i
invariant-loop-i l =
    option_map (λ n. n + l.i) (position (λ key. repeats (map (key_of key) (lent_rows l.rows))) (drop l.i l.keys)) ≡ position (λ key. repeats (map (key_of key) (lent_rows l.rows))) l.keys
