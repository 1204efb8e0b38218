-- The alias is looked for among the items that are left.
use Rattle.std.proofs.Common.{◌≡◌, drop}
use Rattle.ur_sqltype.specs.Scope.{named_from}
use Rattle.ur_sqltype.proofs.columns.column_at.Given as goal

abbrev pub invariant-loop-i : goal.invariant-loop-i
invariant-loop-i l = named_from (λ s. s.alias) (λ s. s.columns) l.alias 0 l.sources ≡ named_from (λ s. s.alias) (λ s. s.columns) l.alias l.i (drop l.i l.sources)
