use Rattle.std.proofs.Common.{◌≡◌, drop}
use Rattle.ur_unfold_static.specs.Words.{params_name}
use Rattle.ur_unfold_static.proofs.cons.in_params.Given as goal

abbrev pub invariant-loop-i : goal.invariant-loop-i
invariant-loop-i l = params_name l.of l.all ≡ params_name l.of (drop l.i l.all)
