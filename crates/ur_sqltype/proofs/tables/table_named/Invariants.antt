use Rattle.std.proofs.Common.{◌≡◌, drop}
use Rattle.ur_sqltype.specs.Scope.{named_from}
use Rattle.ur_sqltype.proofs.tables.table_named.Given as goal

abbrev pub invariant-loop-i : goal.invariant-loop-i
invariant-loop-i l = named_from (λ s. s.name) (λ s. s) l.name 0 l.tables ≡ named_from (λ s. s.name) (λ s. s) l.name l.i (drop l.i l.tables)
