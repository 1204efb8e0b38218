-- The field goes behind those so far.
use Rattle.std.proofs.Common.{◌≡◌, ◌++◌, ℕ, take, drop}
use Rattle.ur_unfold_pieces.specs.Records.{with_number}
use Rattle.ur_unfold_pieces.proofs.records.place_for.Given as goal

abbrev pub invariant-loop-place : goal.invariant-loop-place
invariant-loop-place l = (of : ℕ) → with_number (record { name = l.name; of = of }) l.fields ≡ take l.place l.fields ++ with_number (record { name = l.name; of = of }) (drop l.place l.fields)
