use Rattle.std.proofs.Common.{◌≡◌, ◌++◌, take, flat_map}
use Rattle.ur_invalidate.specs.Texts.{pattern_line}
use Rattle.ur_invalidate.proofs.pattern_text.write_further.Given as goal

abbrev pub invariant-loop-pattern : goal.invariant-loop-pattern
invariant-loop-pattern l = l.out ≡ l.initial.out ++ flat_map (pattern_line l.update l.site) (take l.pattern-index l.patterns)
