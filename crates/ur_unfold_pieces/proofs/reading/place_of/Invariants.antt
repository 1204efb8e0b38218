-- No name so far is this one.
use Rattle.std.proofs.Common.{◌≡◌, drop, position, option_map, ◌+◌}
use Rattle.std.specs.Str.{bytes_eq}
use Rattle.ur_unfold_pieces.proofs.reading.place_of.Given as goal

abbrev pub invariant-loop-place : goal.invariant-loop-place
invariant-loop-place l = option_map (λ n. n + l.place) (position (λ t. bytes_eq t l.name) (drop l.place l.known)) ≡ position (λ t. bytes_eq t l.name) l.known
