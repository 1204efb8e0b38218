use Rattle.std.proofs.Common.{◌≡◌, ◌+◌, ◌-◌, ◌≤◌, length, drop}
use Rattle.std.specs.List.{prefix_len}
use Rattle.ur_load.specs.Lines.{is_space}
use Rattle.ur_load.proofs.pieces.trim_start.Given as goal

abbrev pub invariant-spaces : goal.invariant-spaces
invariant-spaces l = record { within : l.«from» ≤ length l.bytes; passed : prefix_len is_space l.bytes ≡ l.«from» + prefix_len is_space (drop l.«from» l.bytes) }

abbrev pub decreases-spaces : goal.decreases-spaces
decreases-spaces l = length l.bytes - l.«from»
