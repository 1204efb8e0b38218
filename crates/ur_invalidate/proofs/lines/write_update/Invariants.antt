use Rattle.std.proofs.Common.{◌≡◌, ◌++◌, drop, flat_map}
use Rattle.std.specs.List.{enumerate_from}
use Rattle.ur_invalidate.specs.Texts as texts
use Rattle.ur_invalidate.proofs.lines.write_update.Given as goal

abbrev pub invariant-loop-patterns : goal.invariant-loop-patterns
invariant-loop-patterns l =
    (l.site ≡ l.patterns-index)
    × (l.out ++ flat_map (λ s. texts.patterns_text l.update s.0 s.1) (enumerate_from l.patterns-index (drop l.patterns-index l.sites)) ≡ l.initial.out ++ texts.update_text (l.update, l.sites))
