use Rattle.std.proofs.Common.{◌≡◌, ◌-◌, length, take, []}
use Rattle.ur_syntax.specs.Names.{looked_up}
use Rattle.ur_rows_normal.specs.Walk.{declared, key_of}
use Rattle.ur_rows_normal.proofs.names.declared_as.Given as goal

abbrev pub invariant-loop-i : goal.invariant-loop-i
invariant-loop-i l = (looked_up (key_of l.key) (declared l.entries []) ≡ looked_up (key_of l.key) (declared (take (l.count - l.i) l.entries) [])) × (l.count ≡ length l.entries)
