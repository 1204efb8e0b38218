-- What constructors do with names, in reading order.
use Rattle.std.specs.Prelude.{ℕ, Bool, true, false, ◌&&◌, List, [], ◌∷◌, ◌++◌, codes, bytes_eq, if◌then◌else◌, Option, Some, None}
use Rattle.ur_base.specs.declared.refusal.Span.{Span}
use Rattle.ur_syntax.specs.declared.con.Con.{Con}
use Rattle.ur_syntax.specs.declared.con.FieldName.{FieldName}
use Rattle.ur_syntax.specs.declared.con.FieldName.TheVariants as field_name
use Rattle.ur_syntax.specs.declared.con.ConForm.{ConForm, end_of-Con as alone, more_of-Con as its, Row_of-CField, end_of-CField as end, more_of-CField as more, Row_of-RecordField, end_of-RecordField as last, more_of-RecordField as also}
use Rattle.ur_syntax.specs.declared.con.ConForm.TheVariants as con
use Rattle.ur_syntax.specs.declared.con.CField.{CField}
use Rattle.ur_syntax.specs.declared.con.CField.TheVariants as con_field
use Rattle.ur_syntax.specs.declared.con.RecordField.{RecordField}
use Rattle.ur_syntax.specs.declared.con.ConParam.{ConParam}
use Rattle.ur_syntax.specs.declared.con.ConParam.TheVariants as con_param
use Rattle.ur_names.specs.declared.event.Sort.{Sort}
use Rattle.ur_names.specs.declared.event.Sort.TheVariants as sort
use Rattle.ur_names.specs.declared.event.Event.{Event}
use Rattle.ur_names.specs.declared.event.Event.TheVariants as event

-- a name is used as it is written
abbrev pub use_of : Sort → Span → Option (List ℕ) → List ℕ → Event
use_of s p None x = event.Own s p x
use_of s p (Some m) x = event.Member s p m x

-- a field's name: a variable, or no name in scope
abbrev pub in_label : Span → FieldName → List Event
in_label p (field_name.Literal a) = []
in_label p (field_name.Variable x) = event.Own sort.Con p x ∷ []

abbrev pub is_word : List ℕ → ConForm → Bool
is_word w (con.Var x) = bytes_eq x w
is_word w _ = false

abbrev pub is_empty_row : ConForm → Bool
is_empty_row (con.Row' [] end) = true
is_empty_row _ = false

-- `xml form`
abbrev pub is_xml_form : ConForm → Bool
is_xml_form (con.App' _ (its p h alone) _ (its q f alone)) = is_word (codes "xml") h && is_word (codes "form") f
is_xml_form _ = false

-- `map`, before its function, and `xml form []`: their words need not be in scope there
abbrev pub is_form : ConForm → Bool
is_form (con.App' _ (its p h alone) _ (its q e alone)) = is_xml_form h && is_empty_row e
is_form _ = false

abbrev pub is_map : ConForm → Bool
is_map (con.App' _ (its p h alone) _ (its q f alone)) = is_word (codes "map") h
is_map _ = false

abbrev mutual
  pub in_con : Span → ConForm → List Event
  in_con p (con.Lambda' x k _ (its q c alone)) = (event.Open ∷ []) ++ (event.Bind sort.Con x ∷ []) ++ in_con q c ++ event.Close ∷ []
  in_con p (con.Arrow' _ (its q a alone) _ (its r b alone)) = in_con q a ++ in_con r b
  in_con p (con.Concat' _ (its q a alone) _ (its r b alone)) = in_con q a ++ in_con r b
  in_con p (con.App' _ (its q f alone) _ (its r a alone)) =
      (if is_form f then event.Form q ∷ [] else if is_map f then in_mapped q f else in_con q f) ++ in_con r a
  in_con p (con.Var x) = event.Own sort.Con p x ∷ []
  in_con p (con.Member m x) = event.Member sort.Con p m x ∷ []
  in_con p (con.Name a) = []
  in_con p (con.Row' _ fields) = in_fields p fields
  in_con p (con.Record' _ fields) = in_record p fields
  in_con p (con.RecordOf' _ (its q r alone)) = in_con q r

  -- `map f`
  pub in_mapped : Span → ConForm → List Event
  in_mapped p (con.App' _ h _ (its q f alone)) = (event.Map p ∷ []) ++ in_con q f
  in_mapped p _ = []

  pub in_fields : {n : _} → Span → Row_of-CField n → List Event
  in_fields p end = []
  in_fields p (more f rest) = in_field p f ++ in_fields p rest

  pub in_field : Span → CField → List Event
  in_field p (con_field.Bare x) = in_label p x
  in_field p (con_field.Given' x q c) = in_label p x ++ in_con q c

  pub in_record : {n : _} → Span → Row_of-RecordField n → List Event
  in_record p last = []
  in_record p (also x q c rest) = (in_label p x ++ in_con q c) ++ in_record p rest

-- what is applied
abbrev pub in_head : Span → ConForm → List Event
in_head p f = if is_form f then event.Form p ∷ [] else if is_map f then in_mapped p f else in_con p f

abbrev pub in_written : Con → List Event
in_written c = in_con c.span c.form

-- a parameter `[x :: kind]` or `[con ~ con]`
abbrev pub in_con_param : Span → ConParam → List Event
in_con_param p (con_param.Kinded x k) = (event.New sort.Con p x ∷ []) ++ event.Bind sort.Con x ∷ []
in_con_param p (con_param.Disjoint c d) = in_written c ++ in_written d

abbrev pub in_record_field : Span → RecordField → List Event
in_record_field p f = in_label p f.name ++ in_written f.con
