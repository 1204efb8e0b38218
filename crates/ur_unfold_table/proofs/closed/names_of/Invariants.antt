-- The names so far, with those of the fields that are left, are all.
use Rattle.std.proofs.Common.{◌≡◌, ◌++◌, drop, map}
use Rattle.ur_unfold_table.proofs.closed.names_of.Given as goal

abbrev pub invariant-loop-i : goal.invariant-loop-i
invariant-loop-i l = l.names ++ map (λ f. f.name) (drop l.i l.all) ≡ map (λ f. f.name) l.all
