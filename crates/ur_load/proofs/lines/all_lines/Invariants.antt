use Rattle.std.proofs.Common.{◌≡◌, ◌-◌, ◌<◌, ◌≤◌, ◌++◌, length, take, drop, map}
use Rattle.std.specs.Str.Lines.{lines}
use Rattle.ur_load.specs.Lines.{trimmed, line_ends}
use Rattle.ur_load.specs.Placed.{texts, AreStanding}
use Rattle.ur_load.proofs.lines.all_lines.Given as goal

abbrev pub invariant-lines : goal.invariant-lines
invariant-lines l = record {
  within : l.at ≤ length l.bytes;
  taken : texts l.found ++ map trimmed (lines (drop l.at l.bytes)) ≡ map trimmed (lines l.bytes);
  numbered : l.at < length l.bytes → line_ends (take l.at l.bytes) ≡ length l.found;
  places : AreStanding l.bytes l.found;
}

abbrev pub decreases-lines : goal.decreases-lines
decreases-lines l = length l.bytes - l.at
