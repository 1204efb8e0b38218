-- Names that stand twice.
use Rattle.ur_syntax.specs.declared.con.CField.{CField}
use Rattle.ur_syntax.specs.declared.con.CField.TheVariants as con_field
use Rattle.ur_syntax.specs.declared.con.ConForm.{ConForm, end_of-Con as no_con, more_of-Con as a_con, Row_of-CField, end_of-CField as no_cfield, more_of-CField as a_cfield, Row_of-RecordField, end_of-RecordField as no_record_field, more_of-RecordField as a_record_field}
use Rattle.ur_syntax.specs.declared.con.ConForm.TheVariants as con
use Rattle.std.specs.Prelude.{◌++◌, ℕ, if◌then◌else◌, List, [], ◌∷◌, Option, Some, None, Contains}
use Rattle.std.specs.List.{list_any}
use Rattle.ur_typed_rules.specs.Names.{is_named}
use Rattle.ur_syntax.specs.declared.con.Con.{Con}
use Rattle.ur_syntax.specs.declared.con.FieldName.{FieldName}
use Rattle.ur_syntax.specs.declared.con.FieldName.TheVariants as field_name
use Rattle.ur_syntax.specs.declared.exp.ExpForm.{Row_of-Field, end_of-Field, more_of-Field}

pub data IsTwiceIn (x : List ℕ) : List (Option (List ℕ)) → Type 0 where
  here_twice : {rest : List (Option (List ℕ))} → Contains rest (Some x) → IsTwiceIn x (Some x ∷ rest)
  further_twice : {y : Option (List ℕ)} {rest : List (Option (List ℕ))} → IsTwiceIn x rest → IsTwiceIn x (y ∷ rest)

abbrev pub literal_name : FieldName → Option (List ℕ)
literal_name (field_name.Literal a) = Some a
literal_name (field_name.Variable a) = None

abbrev pub literal_names : {n : _} → Row_of-Field n → List (Option (List ℕ))
literal_names end_of-Field = []
literal_names (more_of-Field f p x rest) = literal_name f ∷ literal_names rest

abbrev pub field_literal : CField → Option (List ℕ)
field_literal (con_field.Bare x) = literal_name x
field_literal (con_field.Given' x _ c) = literal_name x

abbrev mutual
  -- the literal names of each row that is written in a constructor
  pub rows_written : ConForm → List (List (Option (List ℕ)))
  rows_written (con.Lambda' x k _ (a_con p c no_con)) = rows_written c
  rows_written (con.Arrow' _ (a_con p a no_con) _ (a_con q b no_con)) = rows_written a ++ rows_written b
  rows_written (con.Concat' _ (a_con p a no_con) _ (a_con q b no_con)) = rows_written a ++ rows_written b
  rows_written (con.App' _ (a_con p a no_con) _ (a_con q b no_con)) = rows_written a ++ rows_written b
  rows_written (con.Row' _ fields) = names_in_row fields ∷ rows_in_row fields
  rows_written (con.Record' _ fields) = names_in_record fields ∷ rows_in_record fields
  rows_written (con.RecordOf' _ (a_con p c no_con)) = rows_written c
  rows_written _ = []

  pub names_in_row : {n : _} → Row_of-CField n → List (Option (List ℕ))
  names_in_row no_cfield = []
  names_in_row (a_cfield x rest) = field_literal x ∷ names_in_row rest

  pub rows_in_row : {n : _} → Row_of-CField n → List (List (Option (List ℕ)))
  rows_in_row no_cfield = []
  rows_in_row (a_cfield x rest) = rows_in_field x ++ rows_in_row rest

  pub rows_in_field : CField → List (List (Option (List ℕ)))
  rows_in_field (con_field.Bare x) = []
  rows_in_field (con_field.Given' x p c) = rows_written c

  pub names_in_record : {n : _} → Row_of-RecordField n → List (Option (List ℕ))
  names_in_record no_record_field = []
  names_in_record (a_record_field x p c rest) = literal_name x ∷ names_in_record rest

  pub rows_in_record : {n : _} → Row_of-RecordField n → List (List (Option (List ℕ)))
  rows_in_record no_record_field = []
  rows_in_record (a_record_field x p c rest) = rows_written c ++ rows_in_record rest

-- a literal name stands twice in a row that is written in the constructor
pub data RepeatsName (c : Con) (x : List ℕ) : Type 0 where
  repeats : {r : List (Option (List ℕ))} → Contains (rows_written c.form) r → IsTwiceIn x r → RepeatsName c x

-- ---- the first name that stands twice

abbrev pub or_else : {A : Type 0} → Option A → Option A → Option A
or_else (Some x) y = Some x
or_else None y = y

-- the first name of the list that a later one repeats
abbrev pub twice_of : List (Option (List ℕ)) → Option (List ℕ)
twice_of [] = None
twice_of (None ∷ names) = twice_of names
twice_of (Some x ∷ names) = if list_any (is_named x) names then Some x else twice_of names

abbrev pub first_twice : List (List (Option (List ℕ))) → Option (List ℕ)
first_twice [] = None
first_twice (names ∷ rest) = or_else (twice_of names) (first_twice rest)

-- the first literal name that stands twice in a row that is written in the constructor
abbrev pub first_repeated : ConForm → Option (List ℕ)
first_repeated c = first_twice (rows_written c)
