-- The first unknown name of a constructor, in reading order.
use Rattle.std.specs.Prelude.{ℕ, if◌then◌else◌, List, Option, Some, None}
use Rattle.ur_syntax.specs.declared.kind.Kind.{Kind}
use Rattle.ur_syntax.specs.declared.con.FieldName.{FieldName}
use Rattle.ur_syntax.specs.declared.con.FieldName.TheVariants as field_name
use Rattle.ur_syntax.specs.declared.con.ConForm.{ConForm, end_of-Con as alone, more_of-Con as its, Row_of-CField, end_of-CField as end, more_of-CField as more, Row_of-RecordField, end_of-RecordField as last, more_of-RecordField as also}
use Rattle.ur_syntax.specs.declared.con.ConForm.TheVariants as con
use Rattle.ur_syntax.specs.declared.con.CField.{CField}
use Rattle.ur_syntax.specs.declared.con.CField.TheVariants as con_field
use Rattle.ur_syntax.specs.Names.{own, member, name_text}
use Rattle.ur_syntax.specs.HasKind.{Scope, with_name, kind_known, word_kind}
use Rattle.ur_kinds.specs.Words.{is_map, is_form}

-- the first that is there
abbrev pub first : {A : Type 0} → Option A → Option A → Option A
first (Some a) o = Some a
first None o = o

-- a name's spelling, where it has no kind
abbrev pub unless_kinded : Option Kind → List ℕ → Option (List ℕ)
unless_kinded (Some k) x = None
unless_kinded None x = Some x

-- a bare name: one in scope, or else a word
abbrev pub own_kind : Scope → List ℕ → Option Kind
own_kind s x = first (kind_known (own x) s) (word_kind x)

abbrev pub unknown_own : Scope → List ℕ → Option (List ℕ)
unknown_own s x = unless_kinded (own_kind s x) x

abbrev pub unknown_label : Scope → FieldName → Option (List ℕ)
unknown_label s (field_name.Literal a) = None
unknown_label s (field_name.Variable x) = unknown_own s x

abbrev mutual
  -- The first name in a constructor that nothing in its scope has. The words of `map f r` and of `xml form [] r` are known;
  -- anywhere else they are unknown.
  pub unknown_in : Scope → ConForm → Option (List ℕ)
  unknown_in s (con.Lambda' x k _ (its p c alone)) = unknown_in (with_name x k s) c
  unknown_in s (con.Arrow' _ (its p a alone) _ (its q b alone)) = first (unknown_in s a) (unknown_in s b)
  unknown_in s (con.Concat' _ (its p a alone) _ (its q b alone)) = first (unknown_in s a) (unknown_in s b)
  unknown_in s (con.App' _ (its p f alone) _ (its q a alone)) =
      first (if is_form s f then None else if is_map s f then unknown_in_mapped s f else unknown_in s f) (unknown_in s a)
  unknown_in s (con.Var x) = unknown_own s x
  unknown_in s (con.Member m x) = unless_kinded (kind_known (member m x) s) (name_text (Some m) x)
  unknown_in s (con.Name a) = None
  unknown_in s (con.Row' _ fields) = unknown_in_fields s fields
  unknown_in s (con.Record' _ fields) = unknown_in_record s fields
  unknown_in s (con.RecordOf' _ (its p r alone)) = unknown_in s r

  -- `map f` without its word
  pub unknown_in_mapped : Scope → ConForm → Option (List ℕ)
  unknown_in_mapped s (con.App' _ h _ (its q f alone)) = unknown_in s f
  unknown_in_mapped s _ = None

  pub unknown_in_fields : {n : _} → Scope → Row_of-CField n → Option (List ℕ)
  unknown_in_fields s end = None
  unknown_in_fields s (more f rest) = first (unknown_in_field s f) (unknown_in_fields s rest)

  pub unknown_in_field : Scope → CField → Option (List ℕ)
  unknown_in_field s (con_field.Bare x) = unknown_label s x
  unknown_in_field s (con_field.Given' x p c) = first (unknown_label s x) (unknown_in s c)

  pub unknown_in_record : {n : _} → Scope → Row_of-RecordField n → Option (List ℕ)
  unknown_in_record s last = None
  unknown_in_record s (also x p c rest) = first (first (unknown_label s x) (unknown_in s c)) (unknown_in_record s rest)
