use Rattle.std.proofs.Common.{◌≡◌, ◌++◌, drop, flat_map}
use Rattle.std.specs.List.{enumerate_from}
use Rattle.ur_invalidate.specs.Texts as texts
use Rattle.ur_invalidate.proofs.lines.write_updates.Given as goal

abbrev pub invariant-loop-change : goal.invariant-loop-change
invariant-loop-change l =
    (l.update ≡ l.change-index)
    × (l.out ++ flat_map texts.update_line (enumerate_from l.change-index (drop l.change-index l.changes)) ≡ l.initial.out ++ flat_map texts.update_line (enumerate_from 0 l.changes))
