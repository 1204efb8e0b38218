-- The fields so far, with those that are left, are all.
use Rattle.std.proofs.Common.{◌≡◌, ◌++◌, drop}
use Rattle.ur_unfold_pieces.specs.Records.{without_number}
use Rattle.ur_unfold_pieces.proofs.records.push_others.Given as goal

abbrev pub invariant-loop-i : goal.invariant-loop-i
invariant-loop-i l = l.others ++ without_number l.name (drop l.i l.all) ≡ l.initial.others ++ without_number l.name l.all
