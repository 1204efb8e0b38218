-- All are below where all that are left are.
use Rattle.std.proofs.Common.{◌↔◌, drop, map}
use Rattle.ur_unfold_static.specs.Held.{AreBelow}
use Rattle.ur_unfold_static.specs.declared.node.Field.{Field}
use Rattle.ur_unfold_static.proofs.numbers.fields_are_below.Given as goal

abbrev pub invariant-loop-i : goal.invariant-loop-i
invariant-loop-i l = (AreBelow l.most (map (λ (f : Field). f.of) l.all)) ↔ AreBelow l.most (map (λ (f : Field). f.of) (drop l.i l.all))
