use Rattle.std.proofs.Common.{◌≡◌, ◌-◌, ◌≤◌, true, length, take}
use Rattle.std.specs.List.{list_all}
use Rattle.ur_lex.specs.Scanning.{is_in}
use Rattle.ur_lex.proofs.bytes.run.Given as goal

abbrev pub invariant-loop-i : goal.invariant-loop-i
invariant-loop-i l = record { within : l.i ≤ length l.bytes; all : list_all (is_in l.class) (take l.i l.bytes) ≡ true }

abbrev pub decreases-loop-i : goal.decreases-loop-i
decreases-loop-i l = length l.initial.bytes - l.i
