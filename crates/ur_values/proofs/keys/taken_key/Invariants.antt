-- No key so far is taken.
use Rattle.std.proofs.Common.{◌≡◌, drop, position, option_map, ◌+◌}
use Rattle.ur_values.specs.Keys.{is_taken}
use Rattle.ur_values.specs.Store.{rows_of}
use Rattle.ur_values.proofs.keys.taken_key.Given as goal

abbrev pub invariant-loop-i : goal.invariant-loop-i
invariant-loop-i l =
    option_map (λ n. n + l.i) (position (is_taken (rows_of l.rows) l.row) (drop l.i l.keys)) ≡ position (is_taken (rows_of l.rows) l.row) l.keys
