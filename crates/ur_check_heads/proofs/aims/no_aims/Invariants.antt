use Rattle.std.proofs.Common.{◌≡◌, map, take}
use Rattle.ur_check_heads.specs.Aims.{no_method}
use Rattle.ur_check_heads.proofs.aims.no_aims.Given as goal

abbrev pub invariant-loop-i : goal.invariant-loop-i
invariant-loop-i l = l.of ≡ map (λ f. no_method) (take l._i l.functions)
