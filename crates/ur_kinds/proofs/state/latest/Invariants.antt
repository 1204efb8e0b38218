use Rattle.std.proofs.Common.{◌≡◌, ◌-◌, length, take}
use Rattle.ur_kinds.specs.Keys.{key_of}
use Rattle.ur_kinds.proofs.Values.{within_last}
use Rattle.ur_kinds.proofs.state.latest.Given as goal

-- the values from the end so far have another name
abbrev pub invariant-loop-i : goal.invariant-loop-i
invariant-loop-i l = within_last (key_of l.key) l.values ≡ within_last (key_of l.key) (take (length l.values - l.i) l.values)
