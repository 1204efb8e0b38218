use Rattle.std.proofs.Common.{◌≡◌, drop}
use Rattle.ur_unfold_static.specs.Words.{is_one_computed}
use Rattle.ur_unfold_static.proofs.computed.+computed.Given as goal

abbrev pub invariant-some_names_static-loop-i : goal.invariant-some_names_static-loop-i
invariant-some_names_static-loop-i l = is_one_computed l.functions l.all ≡ is_one_computed l.functions (drop l.i l.all)
