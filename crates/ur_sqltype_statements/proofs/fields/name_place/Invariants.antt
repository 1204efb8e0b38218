use Rattle.std.proofs.Common.{◌≡◌, drop}
use Rattle.ur_sqltype.specs.Scope.{named_from}
use Rattle.ur_sqltype_statements.proofs.fields.name_place.Given as goal

abbrev pub invariant-loop-i : goal.invariant-loop-i
invariant-loop-i l = named_from (λ n. n) (λ n. n) l.name 0 l.names ≡ named_from (λ n. n) (λ n. n) l.name l.i (drop l.i l.names)
