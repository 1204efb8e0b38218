use Rattle.std.proofs.Common.{◌≡◌, ◌++◌, take}
use Rattle.std.specs.Prelude.{codes}
use Rattle.ur_invalidate.specs.Texts.{further, key_text}
use Rattle.ur_invalidate.proofs.pattern_text.write_more_keys.Given as goal

abbrev pub invariant-loop-key : goal.invariant-loop-key
invariant-loop-key l = l.out ≡ l.initial.out ++ further (codes ", ") key_text (take l.key-index l.keys)
