-- What is grown so far, and what is left.
use Rattle.std.proofs.Common.{◌≡◌, ◌++◌, map, drop}
use Rattle.ur_keeper.specs.Growing.{grown_all}
use Rattle.ur_keeper.specs.Versions.{settled}
use Rattle.ur_keeper.proofs.held.grown_all.Given as goal

abbrev pub invariant-loop-i : goal.invariant-loop-i
invariant-loop-i l =
    l.all.items ++ map settled (grown_all (drop l.i l.shapes) (drop l.i l.kept) (drop l.i (map (λ t. t.saved) l.tables.items))) ≡ map settled (grown_all l.shapes l.kept (map (λ t. t.saved) l.tables.items))
