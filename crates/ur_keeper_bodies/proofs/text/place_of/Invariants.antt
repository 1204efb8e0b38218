-- No column so far has the name.
use Rattle.std.proofs.Common.{◌≡◌, drop, position, option_map, ◌+◌}
use Rattle.std.specs.Str.{bytes_eq}
use Rattle.ur_keeper_bodies.proofs.text.place_of.Given as goal

abbrev pub invariant-loop-place : goal.invariant-loop-place
invariant-loop-place l =
    option_map (λ n. n + l.place) (position (λ c. bytes_eq c.0 l.name) (drop l.place l.columns)) ≡ position (λ c. bytes_eq c.0 l.name) l.columns
