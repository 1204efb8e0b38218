use Rattle.std.proofs.Common.{◌≡◌, drop}
use Rattle.ur_unfold_static.specs.Words.{cons_name}
use Rattle.ur_unfold_static.proofs.cons.in_cons.Given as goal

abbrev pub invariant-loop-i : goal.invariant-loop-i
invariant-loop-i l = cons_name l.of l.all ≡ cons_name l.of (drop l.i l.all)
