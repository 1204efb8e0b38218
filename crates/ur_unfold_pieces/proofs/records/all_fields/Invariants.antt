-- The last fields are put to those of the right.
use Rattle.std.proofs.Common.{◌≡◌, ◌-◌, drop, length}
use Rattle.ur_unfold_pieces.specs.Records.{numbers_together}
use Rattle.ur_unfold_pieces.proofs.records.all_fields.Given as goal

abbrev pub invariant-loop-i : goal.invariant-loop-i
invariant-loop-i l = l.fields ≡ numbers_together (drop (length l.more - l.i) l.more) l.fn.right
