use Rattle.std.proofs.Common.{◌≡◌, take, map}
use Rattle.ur_sql.specs.declared.pattern.KeyAt.TheVariants as key
use Rattle.ur_invalidate.proofs.site.any_key.Given as goal

abbrev pub invariant-loop-param : goal.invariant-loop-param
invariant-loop-param l = l.keys ≡ map (λ k. key.Any) (take l._param-index l.params)
