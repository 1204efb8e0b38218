use Rattle.std.proofs.Common.{◌≡◌, ◌+◌, drop}
use Rattle.ur_source.specs.Names.{fixed_count}
use Rattle.ur_unfold_static.proofs.mentions_exps.fixed_count.Given as goal

abbrev pub invariant-loop-i : goal.invariant-loop-i
invariant-loop-i l = fixed_count l.all ≡ l.count + fixed_count (drop l.i l.all)
