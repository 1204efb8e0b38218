use Rattle.std.proofs.Common.{◌≡◌, map, take}
use Rattle.ur_tree.specs.Routes.{param_type}
use Rattle.ur_check_heads.proofs.arguments.params_of.Given as goal

abbrev pub invariant-loop-i : goal.invariant-loop-i
invariant-loop-i l = map param_type l.list ≡ map (λ p. p.of) (take l.i l.params)
