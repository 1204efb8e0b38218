-- Where a name stands twice in a written constructor, part by part.
use Rattle.std.specs.Prelude.{ℕ, if◌then◌else◌, List, [], ◌∷◌, Option, Some, None}
use Rattle.std.specs.List.{list_any}
use Rattle.ur_syntax.specs.declared.con.CField.{CField}
use Rattle.ur_syntax.specs.declared.con.RecordField.{RecordField}
use Rattle.ur_typed_rules.specs.Names.{is_named}
use Rattle.ur_typed_rules.specs.Repeats.{rows_in_field, or_else, first_twice, first_repeated}

-- a name that one of the others is
abbrev pub again : Option (List ℕ) → List (Option (List ℕ)) → Option (List ℕ)
again None names = None
again (Some x) names = if list_any (is_named x) names then Some x else None

abbrev pub first_in_field : CField → Option (List ℕ)
first_in_field f = first_twice (rows_in_field f)

abbrev pub first_in_fields : List CField → Option (List ℕ)
first_in_fields [] = None
first_in_fields (f ∷ fields) = or_else (first_in_field f) (first_in_fields fields)

abbrev pub first_in_record : List RecordField → Option (List ℕ)
first_in_record [] = None
first_in_record (f ∷ fields) = or_else (first_repeated f.con.form) (first_in_record fields)
