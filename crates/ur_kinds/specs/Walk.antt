-- What the walk over constructors reads, and what it answers.
use Rattle.std.specs.Prelude.{◌≡◌, ◌≢◌, ℕ, ◌||◌, Bool, List, [], codes, bytes_eq, Option, Some, None, Result, Ok, Err, ⊤, IsTrue, if◌then◌else◌}
use Rattle.ur_base.specs.Stopping.{Says}
use Rattle.ur_base.specs.declared.refusal.Refusal.{Refusal}
use Rattle.ur_base.specs.declared.refusal.Stop.{Stop}
use Rattle.ur_base.specs.declared.refusal.Stop.TheVariants as stop
use Rattle.ur_syntax.specs.declared.kind.Kind.{Kind}
use Rattle.ur_syntax.specs.declared.kind.Kind.TheVariants as kind
use Rattle.ur_syntax.specs.declared.con.ConForm.{ConForm}
use Rattle.ur_syntax.specs.declared.con.ConName.{ConName}
use Rattle.ur_syntax.specs.Names.{own, member}
use Rattle.ur_syntax.specs.HasKind.{Scope, with_name, scope_in, IsWord, HasKind, IsName}
use Rattle.ur_syntax.specs.Forms.{apply_con}
use Rattle.ur_syntax.specs.Kinds.{arrow}
use Rattle.ur_base.specs.declared.refusal.Span.{Span}
use Rattle.ur_syntax.specs.declared.con.FieldName.{FieldName}
use Rattle.ur_syntax.specs.declared.con.FieldName.TheVariants as field_name
use Rattle.ur_syntax.specs.declared.con.ConForm.TheVariants as con
use Rattle.ur_syntax.specs.declared.con.CField.{CField}
use Rattle.ur_syntax.specs.declared.con.CField.TheVariants as con_field
use Rattle.ur_syntax.specs.declared.con.RecordField.{RecordField}
use Rattle.ur_kinds.specs.declared.walk.Head.{Head}
use Rattle.ur_kinds.specs.declared.walk.Head.TheVariants as head
use Rattle.ur_kinds.specs.Words.{is_map, is_form}
use Rattle.ur_kinds.specs.Unknown.{first, unknown_label, unknown_in, unknown_in_mapped}
use Rattle.ur_kinds.specs.Faults.{HasFault, Misfits, FieldPart, RecordFieldPart, TellsKind, bad_kind}
use Rattle.ur_kinds.specs.declared.names.Names.{Names}
use Rattle.ur_kinds.specs.declared.names.Names.TheVariants as names
use Rattle.ur_kinds.specs.declared.names.Key.{Key}
use Rattle.ur_kinds.specs.declared.names.Key.TheVariants as key

abbrev pub scope_of : Names → Scope
scope_of (names.Declared env) = scope_in env.now
scope_of (names.Bound' x k _ rest) = with_name x.now k.now (scope_of rest)

abbrev pub key_of : Key → ConName
key_of (key.Own x) = own x.now
key_of (key.Member m x) = member m.now x.now

-- the names are known, or the first unknown one is told
abbrev pub NamesTold : Result (Unit {0}) Stop → Option (List ℕ) → Type 0
NamesTold (Ok a) o = o ≡ None
NamesTold (Err (stop.Refused r)) (Some x) = Says r 7 x []
NamesTold (Err (stop.Refused r)) None = ⊥
NamesTold (Err stop.Memory) o = ⊤

-- the words that are types, and those that make types of types
abbrev pub is_type_word : List ℕ → Bool
is_type_word x =
    bytes_eq x (codes "int") || (bytes_eq x (codes "string") || (bytes_eq x (codes "bool") || (bytes_eq x (codes "unit") || (bytes_eq x (codes "page") ||
    (bytes_eq x (codes "xbody") || (bytes_eq x (codes "xtable") || (bytes_eq x (codes "xtr") || bytes_eq x (codes "xform"))))))))

abbrev pub is_maker_word : List ℕ → Bool
is_maker_word x = bytes_eq x (codes "option") || (bytes_eq x (codes "list") || bytes_eq x (codes "transaction"))

-- what is applied, but for the words of `map f` and `xml form []`
abbrev pub unknown_in_head : Scope → ConForm → Option (List ℕ)
unknown_in_head s f = if is_form s f then None else if is_map s f then unknown_in_mapped s f else unknown_in s f

abbrev pub unknown_in_record_field : Scope → RecordField → Option (List ℕ)
unknown_in_record_field s f = first (unknown_label s f.name) (unknown_in s f.con.form)

-- `map f` of a function of types
pub record MapFits (s : Scope) (c : ConForm) : Type 0 where
  pub of : Span
  pub at : Span
  pub function : ConForm
  pub is : c ≡ apply_con of (con.Var (codes "map")) at function
  pub word : IsWord s (codes "map")
  pub kind_is : HasKind s function (arrow kind.Star kind.Star)

-- what is applied: something of a kind, or `map f`, or `xml form []`
abbrev pub HeadFits : Scope → ConForm → Head → Type 0
HeadFits s f head.Map = MapFits s f
HeadFits s f head.Form = IsTrue (is_form s f)
HeadFits s f (head.Of k) = HasKind s f k

-- a fault of any application of f
abbrev pub HeadFault : Scope → ConForm → Refusal → Type 0
HeadFault s f r = (p q : Span) (a : ConForm) → HasFault s (apply_con p f q a) r

abbrev pub FieldKinded : Scope → CField → Type 0
FieldKinded s (con_field.Bare x) = IsName s x
FieldKinded s (con_field.Given' x p c) = IsName s x × HasKind s c kind.Star

abbrev pub RecordFieldKinded : Scope → RecordField → Type 0
RecordFieldKinded s f = IsName s f.name × HasKind s f.con.form kind.Star

-- a part of the field does not fit
pub record FieldFault (s : Scope) (f : CField) (r : Refusal) : Type 0 where
  pub part : ConForm
  pub wanted : Kind
  pub stands : FieldPart f part wanted
  pub misfits : Misfits s part wanted r

pub record RecordFieldFault (s : Scope) (f : RecordField) (r : Refusal) : Type 0 where
  pub part : ConForm
  pub wanted : Kind
  pub stands : RecordFieldPart f.name f.con.form part wanted
  pub misfits : Misfits s part wanted r

-- the name of a field does not fit
pub record LabelFault (s : Scope) (x : FieldName) (r : Refusal) : Type 0 where
  pub name : List ℕ
  pub is : x ≡ field_name.Variable name
  pub misfits : Misfits s (con.Var name) kind.Name r

-- a refusal tells two kinds that differ
abbrev pub IsOther : Kind → Kind → Refusal → Type 0
IsOther found wanted r = (found ≢ wanted) × TellsKind r (bad_kind found wanted)
