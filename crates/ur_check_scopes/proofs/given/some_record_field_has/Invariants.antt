use Rattle.std.proofs.Common.{◌≡◌, drop, map}
use Rattle.std.specs.List.{list_any}
use Rattle.ur_typed_rules.specs.Names.{is_named}
use Rattle.ur_typed_rules.specs.Repeats.{literal_name}
use Rattle.ur_check_scopes.proofs.given.some_record_field_has.Given as goal

abbrev pub invariant-loop-i : goal.invariant-loop-i
invariant-loop-i l = list_any (is_named l.name) (map (λ f. literal_name f.name) (drop l.i l.fields)) ≡ list_any (is_named l.name) (map (λ f. literal_name f.name) l.fields)
