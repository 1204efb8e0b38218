-- What is said of types that do not fit: which type was found where, and what is wanted there.
use Rattle.std.specs.Prelude.{◌≡◌, ℕ, ◌<◌, Bool, false, List, [], ◌∷◌, ◌++◌, codes, take, drop, All, Option, Some, None, slice_get}
use Rattle.std.specs.Str.{IsUtf8}
use Rattle.ur_base.specs.declared.names.Name.{Name}
use Rattle.ur_values.specs.declared.value.FieldKind.{FieldKind}
use Rattle.ur_values.specs.declared.value.FieldKind.TheVariants as kind
use Rattle.ur_values.specs.declared.types.ValueType.{ValueType}
use Rattle.ur_values.specs.declared.types.ValueType.TheVariants as ty
use Rattle.ur_values.specs.declared.types.TypeField.{TypeField}
use Rattle.ur_values.specs.Texts.{Names}
use Rattle.ur_terms.specs.declared.term.Op.{Op}
use Rattle.ur_terms.specs.declared.term.Op.TheVariants as op
use Rattle.ur_terms.specs.declared.term.Pattern.{Pattern}
use Rattle.ur_terms.specs.declared.term.Pattern.TheVariants as p
use Rattle.ur_terms.specs.Types.{Signature, RouteType, IsScalar, IsOrdered, IsPlainXml, IsXml, IsFlow, MakeUp, IsValueFor, args_of}
use Rattle.ur_verify_operations.specs.declared.markup.Place.{Place}
use Rattle.ur_verify_operations.specs.declared.markup.Place.TheVariants as place
use Rattle.ur_verify_operations.specs.Fields.{type_at, are_apart}
use Rattle.ur_verify_operations.specs.Parts.{place_in, Submits}
use Rattle.ur_verify_operations.specs.Saying.{TwoTexts, two_types, one_type, nothing, OtherTypes}

-- ---- values

-- one argument of such a type is wanted
pub data UnlikeOne (names : Names) (Such : ValueType → Type 0) (words : List ℕ) (ts : List ValueType) (said : TwoTexts) : Type 0 where
  not_one : ((a : ValueType) → ts ≡ a ∷ [] → ⊥) → said ≡ nothing (codes "one argument") → UnlikeOne names Such words ts said
  not_such : (a : ValueType) → ts ≡ a ∷ [] → (Such a → ⊥) → said ≡ one_type names a words → UnlikeOne names Such words ts said

-- two arguments of one such type are wanted
pub data UnlikeTwo (names : Names) (Such : ValueType → Type 0) (words : List ℕ) (ts : List ValueType) (said : TwoTexts) : Type 0 where
  not_two : ((a b : ValueType) → ts ≡ a ∷ b ∷ [] → ⊥) → said ≡ nothing (codes "two arguments") → UnlikeTwo names Such words ts said
  first_not_such : (a b : ValueType) → ts ≡ a ∷ b ∷ [] → (Such a → ⊥) → said ≡ one_type names a words → UnlikeTwo names Such words ts said
  not_alike : (a b : ValueType) → ts ≡ a ∷ b ∷ [] → (b ≡ a → ⊥) → said ≡ two_types names b a → UnlikeTwo names Such words ts said

-- no argument is wanted, and a type of this form
pub data UnlikeNone (names : Names) (form : ValueType → ValueType) (words : List ℕ) (of : ValueType) (ts : List ValueType) (said : TwoTexts) : Type 0 where
  not_none : (ts ≡ [] → ⊥) → said ≡ nothing (codes "no argument") → UnlikeNone names form words of ts said
  not_of_form : ((a : ValueType) → of ≡ form a → ⊥) → said ≡ one_type names of words → UnlikeNone names form words of ts said

-- an item and a list of such items are wanted
pub data UnlikeCons (names : Names) (ts : List ValueType) (said : TwoTexts) : Type 0 where
  cons_of_two : ((a b : ValueType) → ts ≡ a ∷ b ∷ [] → ⊥) → said ≡ nothing (codes "two arguments") → UnlikeCons names ts said
  cons_no_list : (a list : ValueType) → ts ≡ a ∷ list ∷ [] → ((b : ValueType) → list ≡ ty.Many b → ⊥) → said ≡ one_type names list (codes "a list") → UnlikeCons names ts said
  cons_not_alike : (a b : ValueType) → ts ≡ a ∷ ty.Many b ∷ [] → (a ≡ b → ⊥) → said ≡ two_types names a b → UnlikeCons names ts said

-- ---- records

-- a record with a field of this name is wanted
pub data UnlikeField (name : Name) (ts : List ValueType) (said : TwoTexts) : Type 0 where
  field_of_none : ((fs : List TypeField) → ts ≡ ty.Record fs ∷ [] → ⊥) → said ≡ nothing (codes "a record") → UnlikeField name ts said
  no_field : (fs : List TypeField) → ts ≡ ty.Record fs ∷ [] → type_at name fs ≡ None → said ≡ nothing (codes "a field of this name") → UnlikeField name ts said

-- two records without a name in both are wanted
pub data UnlikeJoin (names : Names) (ts : List ValueType) (said : TwoTexts) : Type 0 where
  join_of_two : ((a b : ValueType) → ts ≡ a ∷ b ∷ [] → ⊥) → said ≡ nothing (codes "two arguments") → UnlikeJoin names ts said
  join_first : (a b : ValueType) → ts ≡ a ∷ b ∷ [] → ((fs : List TypeField) → a ≡ ty.Record fs → ⊥) → said ≡ one_type names a (codes "a record") → UnlikeJoin names ts said
  join_second : (a b : ValueType) → ts ≡ a ∷ b ∷ [] → ((fs : List TypeField) → b ≡ ty.Record fs → ⊥) → said ≡ one_type names b (codes "a record") → UnlikeJoin names ts said
  join_shared : (fs gs : List TypeField) → ts ≡ ty.Record fs ∷ ty.Record gs ∷ [] → are_apart fs gs ≡ false → said ≡ nothing (codes "records without a name in both")
      → UnlikeJoin names ts said

-- ---- XML

-- before parts that make up a form with these fields, a body is wanted, or a form without a name of these
pub data UnlikePart (names : Names) (part : ValueType) (behind : List TypeField) (said : TwoTexts) : Type 0 where
  no_flow : ((fs : List (Name × ValueType)) → IsFlow part fs → ⊥) → said ≡ one_type names part (codes "xbody or a form") → UnlikePart names part behind said
  shared : (fs : List TypeField) → part ≡ ty.Form fs → are_apart fs behind ≡ false → said ≡ nothing (codes "forms without a name in both") → UnlikePart names part behind said

-- parts of a body or form are wanted
pub data UnlikeFlow (names : Names) (ts : List ValueType) (said : TwoTexts) : Type 0 where
  at_part : (before : List ValueType) (part : ValueType) (behind : List ValueType) (fs : List TypeField) → ts ≡ before ++ part ∷ behind → MakeUp behind (ty.Form fs)
      → UnlikePart names part fs said → UnlikeFlow names ts said

-- parts of this type alone are wanted
abbrev pub UnlikeAll : Names → ValueType → List ValueType → TwoTexts → Type 0
UnlikeAll names of ts said = (All (λ t. t ≡ of) ts → ⊥) × (said ≡ one_type names of (codes "parts of this type"))

-- parts that make up XML of this type are wanted
pub data UnlikeParts (names : Names) (of : ValueType) (ts : List ValueType) (said : TwoTexts) : Type 0 where
  no_xml : (IsXml of → ⊥) → said ≡ one_type names of (codes "xml") → UnlikeParts names of ts said
  not_all : IsPlainXml of → UnlikeAll names of ts said → UnlikeParts names of ts said
  no_form : (fs : List TypeField) → of ≡ ty.Form fs → UnlikeFlow names ts said → UnlikeParts names of ts said
  other_form : (made : ValueType) (fs gs : List TypeField) → of ≡ ty.Form fs → made ≡ ty.Form gs → MakeUp ts made → (made ≡ of → ⊥) → said ≡ two_types names made of
      → UnlikeParts names of ts said

-- parts of an element in its place are wanted
abbrev pub UnlikePlace : Names → Place → List ValueType → TwoTexts → Type 0
UnlikePlace names place.InFlow ts said = UnlikeFlow names ts said
UnlikePlace names place.AroundForm ts said = UnlikeFlow names ts said
UnlikePlace names (place.Own of within) ts said = UnlikeParts names within ts said

-- text is wanted
abbrev pub NoText : List ℕ → TwoTexts → Type 0
NoText text said = (IsUtf8 text → ⊥) × (said ≡ nothing (codes "text"))

-- text without arguments is wanted
pub data UnlikeText (names : Names) (text : List ℕ) (ts : List ValueType) (said : TwoTexts) : Type 0 where
  no_text : NoText text said → UnlikeText names text ts said
  text_of : OtherTypes names ts [] said → UnlikeText names text ts said

-- ---- what is declared

-- what is declared there is wanted, with arguments of its types
abbrev pub UnlikeDeclared : {A : Type 0} → Names → List ℕ → (A → List ValueType) → Option A → List ValueType → TwoTexts → Type 0
UnlikeDeclared names words params None ts said = said ≡ nothing words
UnlikeDeclared names words params (Some a) ts said = OtherTypes names ts (params a) said

-- a sequence without arguments is wanted
pub data UnlikeDraw (sig : Signature) (number : ℕ) (ts : List ValueType) (said : TwoTexts) : Type 0 where
  no_sequence : (number < sig.sequences → ⊥) → said ≡ nothing (codes "a sequence") → UnlikeDraw sig number ts said
  draw_of : OtherTypes sig.names ts [] said → UnlikeDraw sig number ts said

-- a route that answers GET, its arguments, and parts of a body or form are wanted
pub data UnlikeLink (sig : Signature) (route k : ℕ) (ts : List ValueType) (said : TwoTexts) : Type 0 where
  link_nowhere : slice_get sig.routes route ≡ None → said ≡ nothing (codes "a route") → UnlikeLink sig route k ts said
  link_no_get : (target : RouteType) → slice_get sig.routes route ≡ Some target → target.get ≡ false → said ≡ nothing (codes "a route that answers GET") → UnlikeLink sig route k ts said
  link_of : (target : RouteType) → slice_get sig.routes route ≡ Some target → (take k ts ≡ target.params → ⊥) → said ≡ nothing (codes "the arguments of the route")
      → UnlikeLink sig route k ts said
  link_around : UnlikeFlow sig.names (drop k ts) said → UnlikeLink sig route k ts said

-- the name of a field, and a value for it, are wanted
pub data UnlikeInput (sig : Signature) (k : FieldKind) (name : Name) (text : List ℕ) (ts : List ValueType) (said : TwoTexts) : Type 0 where
  other_name : (slice_get sig.names name.0 ≡ Some text → ⊥) → said ≡ nothing (codes "the name of a field") → UnlikeInput sig k name text ts said
  no_value : (IsValueFor k ts → ⊥) → said ≡ nothing (codes "a value for the field") → UnlikeInput sig k name text ts said

-- a route that answers POST, its arguments but the last, and the text of a button are wanted
pub data UnlikeSubmit (sig : Signature) (route k : ℕ) (unit : Bool) (ts : List ValueType) (said : TwoTexts) : Type 0 where
  submit_nowhere : slice_get sig.routes route ≡ None → said ≡ nothing (codes "a route") → UnlikeSubmit sig route k unit ts said
  submit_no_post : (target : RouteType) → slice_get sig.routes route ≡ Some target → target.post ≡ false → said ≡ nothing (codes "a route that answers POST")
      → UnlikeSubmit sig route k unit ts said
  submit_of : (target : RouteType) → slice_get sig.routes route ≡ Some target → (Submits unit (take k ts) target.params → ⊥) → said ≡ nothing (codes "the arguments of the route")
      → UnlikeSubmit sig route k unit ts said
  no_label : (IsValueFor kind.Textbox (drop k ts) → ⊥) → said ≡ nothing (codes "the text of a button") → UnlikeSubmit sig route k unit ts said

-- ---- operations and patterns

-- what is said of an operation that gives nothing for arguments of these types
abbrev pub OperationMisfit : Signature → Op → List ValueType → TwoTexts → Type 0
OperationMisfit sig op.Add ts said = OtherTypes sig.names ts (ty.Int ∷ ty.Int ∷ []) said
OperationMisfit sig op.Sub ts said = OtherTypes sig.names ts (ty.Int ∷ ty.Int ∷ []) said
OperationMisfit sig op.Mul ts said = OtherTypes sig.names ts (ty.Int ∷ ty.Int ∷ []) said
OperationMisfit sig op.Div ts said = OtherTypes sig.names ts (ty.Int ∷ ty.Int ∷ []) said
OperationMisfit sig op.Rem ts said = OtherTypes sig.names ts (ty.Int ∷ ty.Int ∷ []) said
OperationMisfit sig op.Neg ts said = OtherTypes sig.names ts (ty.Int ∷ []) said
OperationMisfit sig op.Append ts said = OtherTypes sig.names ts (ty.Str ∷ ty.Str ∷ []) said
OperationMisfit sig op.Not ts said = OtherTypes sig.names ts (ty.Bool ∷ []) said
OperationMisfit sig op.Equal ts said = UnlikeTwo sig.names IsScalar (codes "int, string or bool") ts said
OperationMisfit sig op.Unequal ts said = UnlikeTwo sig.names IsScalar (codes "int, string or bool") ts said
OperationMisfit sig op.Less ts said = UnlikeTwo sig.names IsOrdered (codes "int or string") ts said
OperationMisfit sig op.LessEqual ts said = UnlikeTwo sig.names IsOrdered (codes "int or string") ts said
OperationMisfit sig op.Greater ts said = UnlikeTwo sig.names IsOrdered (codes "int or string") ts said
OperationMisfit sig op.GreaterEqual ts said = UnlikeTwo sig.names IsOrdered (codes "int or string") ts said
OperationMisfit sig op.Show ts said = UnlikeOne sig.names IsScalar (codes "int, string or bool") ts said
OperationMisfit sig (op.Record names) ts said = said ≡ nothing (codes "a value for each name")
OperationMisfit sig (op.Project name) ts said = UnlikeField name ts said
OperationMisfit sig op.Join ts said = UnlikeJoin sig.names ts said
OperationMisfit sig (op.Cut name) ts said = UnlikeField name ts said
OperationMisfit sig (op.Absent of) ts said = UnlikeNone sig.names ty.Opt (codes "an option") of ts said
OperationMisfit sig op.Present ts said = said ≡ nothing (codes "one argument")
OperationMisfit sig (op.Empty of) ts said = UnlikeNone sig.names ty.Many (codes "a list") of ts said
OperationMisfit sig op.Cons ts said = UnlikeCons sig.names ts said
OperationMisfit sig (op.Tagged c) ts said = UnlikeDeclared sig.names (codes "a constructor") (λ (v : ℕ × Option ValueType). args_of v.1) (slice_get sig.variants c) ts said
OperationMisfit sig (op.Fail of) ts said = OtherTypes sig.names ts (ty.Xbody ∷ []) said
OperationMisfit sig (op.Markup of) ts said = UnlikeParts sig.names of ts said
OperationMisfit sig (op.Text text) ts said = UnlikeText sig.names text ts said
OperationMisfit sig op.Shown ts said = UnlikeOne sig.names IsScalar (codes "int, string or bool") ts said
OperationMisfit sig (op.Element tag) ts said = UnlikePlace sig.names (place_in tag) ts said
OperationMisfit sig (op.Link route k) ts said = UnlikeLink sig route k ts said
OperationMisfit sig (op.Input k name text) ts said = UnlikeInput sig k name text ts said
OperationMisfit sig (op.Submit route k unit) ts said = UnlikeSubmit sig route k unit ts said
OperationMisfit sig (op.Ask how site) ts said = UnlikeDeclared sig.names (codes "a query") (λ (q : List ValueType × ValueType). q.0) (slice_get sig.queries site) ts said
OperationMisfit sig (op.Write update) ts said = UnlikeDeclared sig.names (codes "a change") (λ (params : List ValueType). params) (slice_get sig.changes update) ts said
OperationMisfit sig (op.Next q) ts said = UnlikeDraw sig q ts said
OperationMisfit sig (op.GetCookie c) ts said = UnlikeDeclared sig.names (codes "a cookie") (λ (a : ValueType). []) (slice_get sig.cookies c) ts said
OperationMisfit sig (op.SetCookie c) ts said = UnlikeDeclared sig.names (codes "a cookie") (λ (a : ValueType). a ∷ []) (slice_get sig.cookies c) ts said

-- what is said of a constructor's pattern at a type
abbrev pub UnlikeTagged : Names → Option (ℕ × Option ValueType) → ValueType → TwoTexts → Type 0
UnlikeTagged names None a said = said ≡ nothing (codes "a constructor")
UnlikeTagged names (Some v) a said = said ≡ two_types names a (ty.Datatype v.0)

-- what is said of a pattern that matches no value of a type
abbrev pub PatternMisfit : Signature → Pattern → ValueType → TwoTexts → Type 0
PatternMisfit sig p.Any a said = ⊥
PatternMisfit sig (p.Int i) a said = said ≡ two_types sig.names a ty.Int
PatternMisfit sig (p.Str s) a said = said ≡ two_types sig.names a ty.Str
PatternMisfit sig (p.Bool b) a said = said ≡ two_types sig.names a ty.Bool
PatternMisfit sig p.Absent a said = said ≡ one_type sig.names a (codes "an option")
PatternMisfit sig p.Present a said = said ≡ one_type sig.names a (codes "an option")
PatternMisfit sig p.Empty a said = said ≡ one_type sig.names a (codes "a list")
PatternMisfit sig p.Cons a said = said ≡ one_type sig.names a (codes "a list")
PatternMisfit sig (p.Tagged c) a said = UnlikeTagged sig.names (slice_get sig.variants c) a said
