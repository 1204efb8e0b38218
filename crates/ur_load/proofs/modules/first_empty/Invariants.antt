use Rattle.std.proofs.Common.{◌≡◌, ◌+◌, ◌-◌, ◌≤◌, length, drop}
use Rattle.std.specs.List.{position_or_len}
use Rattle.ur_load.specs.Lines.{is_empty}
use Rattle.ur_load.specs.Placed.{texts}
use Rattle.ur_load.proofs.modules.first_empty.Given as goal

abbrev pub invariant-lines : goal.invariant-lines
invariant-lines l = record { within : l.at ≤ length l.lines; passed : position_or_len is_empty (texts l.lines) ≡ l.at + position_or_len is_empty (drop l.at (texts l.lines)) }

abbrev pub decreases-lines : goal.decreases-lines
decreases-lines l = length l.lines - l.at
