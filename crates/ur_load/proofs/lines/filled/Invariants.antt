use Rattle.std.proofs.Common.{◌≡◌, ◌+◌, ◌≤◌, length, take}
use Rattle.std.specs.List.{suffix_len}
use Rattle.ur_load.specs.Lines.{is_empty}
use Rattle.ur_load.specs.Placed.{texts}
use Rattle.ur_load.proofs.lines.filled.Given as goal

abbrev pub invariant-empty : goal.invariant-empty
invariant-empty l = record { within : l.len ≤ length l.lines; passed : l.len + suffix_len is_empty (texts l.lines) ≡ length l.lines + suffix_len is_empty (take l.len (texts l.lines)) }

abbrev pub decreases-empty : goal.decreases-empty
decreases-empty l = l.len
