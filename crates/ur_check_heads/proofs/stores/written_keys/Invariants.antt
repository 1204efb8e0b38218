use Rattle.std.proofs.Common.{◌≡◌, ◌++◌, take, map, false, []}
use Rattle.ur_typed.specs.Project.{written_key, written_keys}
use Rattle.ur_check_heads.proofs.stores.written_keys.Given as goal

abbrev pub invariant-loop-i : goal.invariant-loop-i
invariant-loop-i l = l.keys ≡ written_keys l.primary [] ++ map (λ c. written_key false c.columns) (take l.i l.constraints)
