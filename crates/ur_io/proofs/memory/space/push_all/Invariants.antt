use Rattle.std.proofs.Common.{◌≡◌, ◌-◌, ◌++◌, take}
use Rattle.ur_io.proofs.memory.space.push_all.Given as goal

abbrev pub invariant-loop-byte : goal.invariant-loop-byte
invariant-loop-byte l = l.room ≡ record { items = l.initial.room.items ++ take l.byte-index l.bytes; spare = l.initial.room.spare - l.byte-index }
