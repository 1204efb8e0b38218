use Rattle.std.proofs.Common.{◌≡◌, drop}
use Rattle.std.specs.List.{list_any}
use Rattle.ur_conditions.specs.Patterns.{pattern_eq}
use Rattle.ur_invalidate.proofs.site.is_among.Given as goal

abbrev pub invariant-loop-other : goal.invariant-loop-other
invariant-loop-other l = list_any (λ other. pattern_eq other l.pattern) (drop l.other-index l.patterns) ≡ list_any (λ other. pattern_eq other l.pattern) l.patterns
