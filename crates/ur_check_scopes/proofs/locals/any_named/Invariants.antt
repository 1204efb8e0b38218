use Rattle.std.proofs.Common.{◌≡◌, drop, map}
use Rattle.std.specs.List.{list_any}
use Rattle.ur_typed_rules.specs.Names.{is_named}
use Rattle.ur_check_scopes.proofs.locals.any_named.Given as goal

abbrev pub invariant-loop-i : goal.invariant-loop-i
invariant-loop-i l = list_any (is_named l.name) (map (λ x. x.name) (drop l.i l.locals)) ≡ list_any (is_named l.name) (map (λ x. x.name) l.locals)
