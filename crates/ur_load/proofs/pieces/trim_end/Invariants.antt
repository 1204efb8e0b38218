use Rattle.std.proofs.Common.{◌≡◌, ◌+◌, ◌≤◌, length, take}
use Rattle.std.specs.List.{suffix_len}
use Rattle.ur_load.specs.Lines.{is_space}
use Rattle.ur_load.proofs.pieces.trim_end.Given as goal

abbrev pub invariant-spaces : goal.invariant-spaces
invariant-spaces l = record { within : l.to ≤ length l.bytes; passed : l.to + suffix_len is_space l.bytes ≡ length l.bytes + suffix_len is_space (take l.to l.bytes) }

abbrev pub decreases-spaces : goal.decreases-spaces
decreases-spaces l = l.to
