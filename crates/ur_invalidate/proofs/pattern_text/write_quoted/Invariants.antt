use Rattle.std.proofs.Common.{◌≡◌, ◌++◌, take, flat_map}
use Rattle.ur_invalidate.specs.Texts.{quoted}
use Rattle.ur_invalidate.proofs.pattern_text.write_quoted.Given as goal

abbrev pub invariant-loop-byte : goal.invariant-loop-byte
invariant-loop-byte l = l.out ≡ l.initial.out ++ flat_map quoted (take l.byte-index l.text)
