-- What is not found yet is in what is left.
use Rattle.std.proofs.Common.{◌≡◌, drop}
use Rattle.ur_unfold_pieces.specs.Records.{number_of_field}
use Rattle.ur_unfold_pieces.proofs.records.field_at.Given as goal

abbrev pub invariant-loop-i : goal.invariant-loop-i
invariant-loop-i l = number_of_field l.name (drop l.i l.all) ≡ number_of_field l.name l.all
