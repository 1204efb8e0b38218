-- What a constructor without a kind breaks, and where.
use Rattle.std.specs.Prelude.{◌≡◌, ◌≢◌, ℕ, List, [], codes, Option, Some, None, IsTrue, IsFalse}
use mathlib.Core.Former.{Count}
use Rattle.ur_base.specs.Shape.{Shape, count}
use Rattle.ur_base.specs.Stopping.{Says}
use Rattle.ur_base.specs.declared.refusal.Span.{Span}
use Rattle.ur_base.specs.declared.refusal.Refusal.{Refusal}
use Rattle.ur_syntax.specs.declared.kind.Kind.{Kind}
use Rattle.ur_syntax.specs.declared.kind.Kind.TheVariants as kind
use Rattle.ur_syntax.specs.declared.con.FieldName.{FieldName}
use Rattle.ur_syntax.specs.declared.con.FieldName.TheVariants as field_name
use Rattle.ur_syntax.specs.declared.con.ConForm.{ConForm, Row_of-CField, more_of-CField as more, Row_of-RecordField, more_of-RecordField as also}
use Rattle.ur_syntax.specs.declared.con.ConForm.TheVariants as con
use Rattle.ur_syntax.specs.declared.con.CField.{CField}
use Rattle.ur_syntax.specs.declared.con.CField.TheVariants as con_field
use Rattle.ur_syntax.specs.Kinds.{arrow, is_plain}
use Rattle.ur_syntax.specs.Names.{member, name_text}
use Rattle.ur_syntax.specs.Forms.{fn_con, arrow_con, concat_con, apply_con, dollar_con, map_con}
use Rattle.ur_syntax.specs.HasKind.{Scope, with_name, kind_known, IsWord, HasKind}
use Rattle.ur_kinds.specs.Texts.{kind_text}
use Rattle.ur_kinds.specs.Unknown.{own_kind}
use Rattle.ur_kinds.specs.Words.{is_map, is_form}

-- a part of a row's field, and the kind that is wanted of it; a name in scope that names the field is a part
pub data FieldPart : CField → ConForm → Kind → Type 0 where
  field_type : {x : FieldName} {p : Span} {c : ConForm} → FieldPart (con_field.Given' x p c) c kind.Star
  given_name : {x : List ℕ} {p : Span} {c : ConForm} → FieldPart (con_field.Given' (field_name.Variable x) p c) (con.Var x) kind.Name
  bare_name : {x : List ℕ} → FieldPart (con_field.Bare (field_name.Variable x)) (con.Var x) kind.Name

-- the same of a record's field
pub data RecordFieldPart : FieldName → ConForm → ConForm → Kind → Type 0 where
  record_field_type : {x : FieldName} {c : ConForm} → RecordFieldPart x c c kind.Star
  record_field_name : {x : List ℕ} {c : ConForm} → RecordFieldPart (field_name.Variable x) c (con.Var x) kind.Name

pub data RowPart : (n : Count) → Row_of-CField n → ConForm → Kind → Type 0 where
  here : {n : Count} {rest : Row_of-CField n} {f : CField} {c : ConForm} {k : Kind} → FieldPart f c k → RowPart _ (more f rest) c k
  later : {n : Count} {rest : Row_of-CField n} {f : CField} {c : ConForm} {k : Kind} → RowPart _ rest c k → RowPart _ (more f rest) c k

pub data RecordPart : (n : Count) → Row_of-RecordField n → ConForm → Kind → Type 0 where
  here_too : {n : Count} {rest : Row_of-RecordField n} {x : FieldName} {p : Span} {c d : ConForm} {k : Kind} → RecordFieldPart x c d k → RecordPart _ (also x p c rest) d k
  later_too : {n : Count} {rest : Row_of-RecordField n} {x : FieldName} {p : Span} {c d : ConForm} {k : Kind} → RecordPart _ rest d k → RecordPart _ (also x p c rest) d k

-- In the first constructor, in its scope, the second one is a part, in its scope, and this kind is wanted of it, where one is
-- determined. The words of `map f r` and of `xml form [] r` are no parts.
pub data Part : Scope → ConForm → Scope → ConForm → Option Kind → Type 0 where
  body : {s : Scope} {x : List ℕ} {k : Kind} {p : Span} {c : ConForm} → Part s (fn_con x k p c) (with_name x k s) c None
  from : {s : Scope} {p q : Span} {a b : ConForm} → Part s (arrow_con p a q b) s a (Some kind.Star)
  to : {s : Scope} {p q : Span} {a b : ConForm} → Part s (arrow_con p a q b) s b (Some kind.Star)
  left : {s : Scope} {p q : Span} {a b : ConForm} → Part s (concat_con p a q b) s a (Some kind.Row)
  right : {s : Scope} {p q : Span} {a b : ConForm} → Part s (concat_con p a q b) s b (Some kind.Row)
  head : {s : Scope} {p q : Span} {f a : ConForm} → IsFalse (is_form s f) → IsFalse (is_map s f) → Part s (apply_con p f q a) s f None
  argument : {s : Scope} {p q : Span} {f a : ConForm} → Part s (apply_con p f q a) s a None
  given : {s : Scope} {p q : Span} {f a : ConForm} {k j : Kind} → HasKind s f (arrow k j) → Part s (apply_con p f q a) s a (Some k)
  mapped : {s : Scope} {p o q t : Span} {f r : ConForm} → IsWord s (codes "map") → Part s (map_con p o q f t r) s f (Some (arrow kind.Star kind.Star))
  mapped_row : {s : Scope} {p q : Span} {f r : ConForm} → IsTrue (is_map s f) → Part s (apply_con p f q r) s r (Some kind.Row)
  form_row : {s : Scope} {p q : Span} {f r : ConForm} → IsTrue (is_form s f) → Part s (apply_con p f q r) s r (Some kind.Row)
  dollar : {s : Scope} {p : Span} {r : ConForm} → Part s (dollar_con p r) s r (Some kind.Row)
  in_row : {s : Scope} {shape : Shape} {fields : Row_of-CField (count shape)} {c : ConForm} {k : Kind} → RowPart _ fields c k → Part s (con.Row' shape fields) s c (Some k)
  in_record : {s : Scope} {shape : Shape} {fields : Row_of-RecordField (count shape)} {c : ConForm} {k : Kind} → RecordPart _ fields c k → Part s (con.Record' shape fields) s c (Some k)

-- in the first constructor, in its scope, the second one stands, in its scope
pub data StandsIn : Scope → ConForm → Scope → ConForm → Type 0 where
  itself : {s : Scope} {c : ConForm} → StandsIn s c s c
  within : {s t u : Scope} {c d e : ConForm} {k : Option Kind} → Part s c t d k → StandsIn t d u e → StandsIn s c u e

-- an unknown name, or a kind that was found where another one is wanted
pub data Fault : Type 0 where
  unknown : List ℕ → Fault
  bad_kind : Kind → Kind → Fault

-- the constructor itself breaks a rule in its scope
pub data Breaks : Scope → ConForm → Fault → Type 0 where
  no_name : {s : Scope} {x : List ℕ} → own_kind s x ≡ None → Breaks s (con.Var x) (unknown x)
  no_member : {s : Scope} {m x : List ℕ} → kind_known (member m x) s ≡ None → Breaks s (con.Member m x) (unknown (name_text (Some m) x))
  -- a part has a kind other than its place wants
  misplaced : {s t : Scope} {c d : ConForm} {found wanted : Kind} → Part s c t d (Some wanted) → HasKind t d found → found ≢ wanted → Breaks s c (bad_kind found wanted)
  -- what is applied is no function
  no_function : {s : Scope} {p q : Span} {f a : ConForm} {found k : Kind} → HasKind s f found → IsTrue (is_plain found) → HasKind s a k →
      Breaks s (apply_con p f q a) (bad_kind found (arrow k kind.Star))
  -- the variable of an `fn` has an arrow for its kind
  no_variable : {s : Scope} {x : List ℕ} {k : Kind} {p : Span} {c : ConForm} → IsFalse (is_plain k) → Breaks s (fn_con x k p c) (bad_kind k kind.Star)

-- a refusal tells a fault: its code and texts
abbrev pub TellsKind : Refusal → Fault → Type 0
TellsKind r (unknown x) = Says r 7 x []
TellsKind r (bad_kind found wanted) = Says r 9 (kind_text found) (kind_text wanted)

-- a fault that stands in a constructor, as it is told
pub record HasFault (s : Scope) (c : ConForm) (r : Refusal) : Type 0 where
  pub fault : Fault
  pub scope : Scope
  pub place : ConForm
  pub stands : StandsIn s c scope place
  pub broken : Breaks scope place fault
  pub told : TellsKind r fault

-- a constructor is not of the kind that is wanted of it, as it is told
pub data Misfits : Scope → ConForm → Kind → Refusal → Type 0 where
  faulty : {s : Scope} {c : ConForm} {wanted : Kind} {r : Refusal} → HasFault s c r → Misfits s c wanted r
  other_kind : {s : Scope} {c : ConForm} {found wanted : Kind} {r : Refusal} → HasKind s c found → found ≢ wanted → TellsKind r (bad_kind found wanted) → Misfits s c wanted r
