use Rattle.std.proofs.Common.{◌≡◌, ◌++◌, drop, flat_map}
use Rattle.std.specs.List.{enumerate_from}
use Rattle.ur_invalidate.specs.Texts as texts
use Rattle.ur_invalidate.proofs.lines.write_drops.Given as goal

abbrev pub invariant-loop-sites : goal.invariant-loop-sites
invariant-loop-sites l =
    (l.update ≡ l.sites-index)
    × (l.out ++ flat_map texts.update_text (enumerate_from l.sites-index (drop l.sites-index l.updates)) ≡ l.initial.out ++ flat_map texts.update_text (enumerate_from 0 l.updates))
