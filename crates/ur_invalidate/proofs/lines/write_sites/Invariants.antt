use Rattle.std.proofs.Common.{◌≡◌, ◌++◌, drop, flat_map}
use Rattle.std.specs.List.{enumerate_from}
use Rattle.ur_invalidate.specs.Texts as texts
use Rattle.ur_invalidate.proofs.lines.write_sites.Given as goal

abbrev pub invariant-loop-query : goal.invariant-loop-query
invariant-loop-query l =
    (l.site ≡ l.query-index)
    × (l.out ++ flat_map texts.site_line (enumerate_from l.query-index (drop l.query-index l.queries)) ≡ l.initial.out ++ flat_map texts.site_line (enumerate_from 0 l.queries))
