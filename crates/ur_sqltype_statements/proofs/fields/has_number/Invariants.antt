use Rattle.std.proofs.Common.{◌≡◌, drop, map, nat_eq}
use Rattle.std.specs.List.{list_any}
use Rattle.ur_sqltype.specs.Query.{field_number}
use Rattle.ur_sqltype_statements.proofs.fields.has_number.Given as goal

abbrev pub invariant-loop-field : goal.invariant-loop-field
invariant-loop-field l = list_any (nat_eq l.number) (map field_number (drop l.field-index l.fields)) ≡ list_any (nat_eq l.number) (map field_number l.fields)
