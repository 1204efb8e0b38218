-- The first-order typing table: which terms have which types.
use Rattle.std.specs.Prelude.{◌≡◌, ◌≢◌, ℕ, ◌<◌, Bool, true, false, List, [], ◌∷◌, ◌++◌, take, drop, map, All, AllPairs, Option, Some, None, slice_get}
use Rattle.std.specs.List.{Contains}
use Rattle.ur_base.specs.declared.names.Name.{Name}
use Rattle.std.specs.Str.{IsUtf8}
use Rattle.ur_values.specs.Values.{IsInt}
use Rattle.ur_values.specs.declared.types.ValueType.{ValueType}
use Rattle.ur_values.specs.declared.types.ValueType.TheVariants as ty
use Rattle.ur_values.specs.declared.types.TypeField.{TypeField}
use Rattle.ur_values.specs.declared.value.Tag.{Tag}
use Rattle.ur_values.specs.declared.value.Tag.TheVariants as tag
use Rattle.ur_values.specs.declared.value.FieldKind.{FieldKind}
use Rattle.ur_values.specs.declared.value.FieldKind.TheVariants as kind
use Rattle.ur_terms.specs.declared.term.AnswerForm.{AnswerForm}
use Rattle.ur_terms.specs.declared.term.AnswerForm.TheVariants as form
use Rattle.ur_terms.specs.declared.term.Op.{Op}
use Rattle.ur_terms.specs.declared.term.Op.TheVariants as op
use Rattle.ur_terms.specs.declared.term.Pattern.{Pattern}
use Rattle.ur_terms.specs.declared.term.Pattern.TheVariants as p
use Rattle.ur_terms.specs.declared.term.Term.{Term, Row_of-Term, end_of-Term, more_of-Term, Row_of-Branch, end_of-Branch, more_of-Branch}
use Rattle.ur_terms.specs.declared.term.Term.TheVariants as t
use Rattle.ur_terms.specs.declared.term.Function.{Function}
use Rattle.ur_terms.specs.Values.{fields_together, field_at, without_field, fields_of}

-- a route as links and submit buttons see it: the types of its arguments, and its methods
pub record RouteType : Type 0 where
  pub params : List ValueType
  pub get : Bool
  pub post : Bool

-- What a program declares: its names, the datatype and argument of each constructor, its cookies, the antiquotes and
-- row type of each query, the antiquotes of each change, its sequences, its routes, and its functions' types.
pub record Signature : Type 0 where
  pub names : List (List ℕ)
  pub variants : List (ℕ × Option ValueType)
  pub cookies : List ValueType
  pub queries : List (List ValueType × ValueType)
  pub changes : List (List ValueType)
  pub sequences : ℕ
  pub routes : List RouteType
  pub functions : List (List ValueType × ValueType)

abbrev pub unit_type : ValueType
unit_type = ty.Record []

abbrev pub typed_field : Name × ValueType → TypeField
typed_field f = record { name = f.0; of = f.1 }

abbrev pub record_type : List (Name × ValueType) → ValueType
record_type fs = ty.Record (map typed_field fs)

abbrev pub form_type : List (Name × ValueType) → ValueType
form_type fs = ty.Form (map typed_field fs)

-- int, string or bool
pub data IsScalar : ValueType → Type 0 where
  scalar_int : IsScalar ty.Int
  scalar_string : IsScalar ty.Str
  scalar_bool : IsScalar ty.Bool

-- int or string
pub data IsOrdered : ValueType → Type 0 where
  ordered_int : IsOrdered ty.Int
  ordered_string : IsOrdered ty.Str

-- the types of XML outside forms
pub data IsPlainXml : ValueType → Type 0 where
  xml_page : IsPlainXml ty.Page
  xml_body : IsPlainXml ty.Xbody
  xml_table : IsPlainXml ty.Xtable
  xml_row : IsPlainXml ty.Xtr

-- the types of XML
pub data IsXml : ValueType → Type 0 where
  plain_xml : (of : ValueType) → IsPlainXml of → IsXml of
  form_xml : (fs : List (Name × ValueType)) → IsXml (form_type fs)

-- what stands in a body, or in a form that has these fields
pub data IsFlow : ValueType → List (Name × ValueType) → Type 0 where
  flow_body : IsFlow ty.Xbody []
  flow_form : (fs : List (Name × ValueType)) → IsFlow (form_type fs) fs

-- ---- records

-- no name in both
abbrev pub AreApart : {A B : Type 0} → List (Name × A) → List (Name × B) → Type 0
AreApart fs gs = All (λ f. field_at f.0 gs ≡ None) fs

-- ---- XML

-- Parts that stand beside each other make up XML of a type. In a form each part may be a body, and the fields of
-- the others are put together.
pub data MakeUp : List ValueType → ValueType → Type 0 where
  alike : (ts : List ValueType) (of : ValueType) → IsPlainXml of → All (λ t. t ≡ of) ts → MakeUp ts of
  no_part : MakeUp [] (form_type [])
  more_parts : (part : ValueType) (ts : List ValueType) (fs gs : List (Name × ValueType)) → IsFlow part fs → MakeUp ts (form_type gs)
      → AreApart fs gs → MakeUp (part ∷ ts) (form_type (fields_together fs gs))

-- the tags that stand in a body or form and hold what stands around them
abbrev pub IsInFlow : Tag → Type 0
IsInFlow tag.Head = ⊥
IsInFlow tag.Title = ⊥
IsInFlow tag.Body = ⊥
IsInFlow tag.Table = ⊥
IsInFlow tag.Tr = ⊥
IsInFlow tag.Td = ⊥
IsInFlow tag.Th = ⊥
IsInFlow tag.Form = ⊥
IsInFlow _ = Unit {0}

-- an element with this tag stands in the second type and holds the third, whatever stands around it
pub data Stands : Tag → ValueType → ValueType → Type 0 where
  stands_head : Stands tag.Head ty.Page ty.Page
  stands_title : Stands tag.Title ty.Page ty.Xbody
  stands_body : Stands tag.Body ty.Page ty.Xbody
  stands_table : Stands tag.Table ty.Xbody ty.Xtable
  stands_row : Stands tag.Tr ty.Xtable ty.Xtr
  stands_cell : Stands tag.Td ty.Xtr ty.Xbody
  stands_header : Stands tag.Th ty.Xtr ty.Xbody
  stands_form : (fs : List (Name × ValueType)) → Stands tag.Form ty.Xbody (form_type fs)

-- What holds these parts in a body or form is a body where each of them is one, and else a form with their fields.
pub data Holds (ts : List ValueType) : ValueType → Type 0 where
  holds_bodies : All (λ t. t ≡ ty.Xbody) ts → Holds ts ty.Xbody
  holds_fields : (fs : List (Name × ValueType)) → (All (λ t. t ≡ ty.Xbody) ts → ⊥) → MakeUp ts (form_type fs) → Holds ts (form_type fs)

-- an element with this tag, around these parts, stands in the type
pub data ElementStands (t : Tag) (ts : List ValueType) (r : ValueType) : Type 0 where
  of_its_own : (within : ValueType) → Stands t r within → MakeUp ts within → ElementStands t ts r
  as_its_parts : IsInFlow t → Holds ts r → ElementStands t ts r

abbrev pub field_kind : FieldKind → ValueType
field_kind kind.Textbox = ty.Str
field_kind kind.Password = ty.Str
field_kind kind.Textarea = ty.Str
field_kind kind.Checkbox = ty.Bool

-- a value is a string, and only a text field has one
abbrev pub IsValueFor : FieldKind → List ValueType → Type 0
IsValueFor k [] = Unit {0}
IsValueFor kind.Textbox (t ∷ ts) = t ∷ ts ≡ ty.Str ∷ []
IsValueFor kind.Password (t ∷ ts) = t ∷ ts ≡ ty.Str ∷ []
IsValueFor kind.Textarea (t ∷ ts) = ⊥
IsValueFor kind.Checkbox (t ∷ ts) = ⊥

-- the submit button's call has a unit last, where the form has no fields
abbrev pub IsUnitForm : Bool → List (Name × ValueType) → Type 0
IsUnitForm true last = last ≡ []
IsUnitForm false last = last ≢ []

-- ---- operations

abbrev pub answer_type : AnswerForm → ValueType → ValueType
answer_type form.All row = ty.Many row
answer_type form.One row = row
answer_type form.OneOrNone row = ty.Opt row

-- the types of an operation's arguments and result
abbrev pub OpType : Signature → Op → List ValueType → ValueType → Type 0
OpType sig op.Add ts r = (ts ≡ ty.Int ∷ ty.Int ∷ []) × (r ≡ ty.Int)
OpType sig op.Sub ts r = (ts ≡ ty.Int ∷ ty.Int ∷ []) × (r ≡ ty.Int)
OpType sig op.Mul ts r = (ts ≡ ty.Int ∷ ty.Int ∷ []) × (r ≡ ty.Int)
OpType sig op.Div ts r = (ts ≡ ty.Int ∷ ty.Int ∷ []) × (r ≡ ty.Int)
OpType sig op.Rem ts r = (ts ≡ ty.Int ∷ ty.Int ∷ []) × (r ≡ ty.Int)
OpType sig op.Neg ts r = (ts ≡ ty.Int ∷ []) × (r ≡ ty.Int)
OpType sig op.Append ts r = (ts ≡ ty.Str ∷ ty.Str ∷ []) × (r ≡ ty.Str)
OpType sig op.Not ts r = (ts ≡ ty.Bool ∷ []) × (r ≡ ty.Bool)
OpType sig op.Equal ts r = (a : ValueType) × (ts ≡ a ∷ a ∷ []) × IsScalar a × (r ≡ ty.Bool)
OpType sig op.Unequal ts r = (a : ValueType) × (ts ≡ a ∷ a ∷ []) × IsScalar a × (r ≡ ty.Bool)
OpType sig op.Less ts r = (a : ValueType) × (ts ≡ a ∷ a ∷ []) × IsOrdered a × (r ≡ ty.Bool)
OpType sig op.LessEqual ts r = (a : ValueType) × (ts ≡ a ∷ a ∷ []) × IsOrdered a × (r ≡ ty.Bool)
OpType sig op.Greater ts r = (a : ValueType) × (ts ≡ a ∷ a ∷ []) × IsOrdered a × (r ≡ ty.Bool)
OpType sig op.GreaterEqual ts r = (a : ValueType) × (ts ≡ a ∷ a ∷ []) × IsOrdered a × (r ≡ ty.Bool)
OpType sig op.Show ts r = (a : ValueType) × (ts ≡ a ∷ []) × IsScalar a × (r ≡ ty.Str)
OpType sig (op.Record names) ts r =
    (fs : List (Name × ValueType)) × (fields_of names ts ≡ Some fs) × AllPairs (λ m n. m ≢ n) names × (r ≡ record_type fs)
OpType sig (op.Project name) ts r = (fs : List (Name × ValueType)) × (ts ≡ record_type fs ∷ []) × (field_at name fs ≡ Some r)
OpType sig op.Join ts r =
    (fs : List (Name × ValueType)) × (gs : List (Name × ValueType)) × (ts ≡ record_type fs ∷ record_type gs ∷ []) × AreApart fs gs × (r ≡ record_type (fields_together fs gs))
OpType sig (op.Cut name) ts r =
    (fs : List (Name × ValueType)) × (a : ValueType) × (ts ≡ record_type fs ∷ []) × (field_at name fs ≡ Some a) × (r ≡ record_type (without_field name fs))
OpType sig (op.Absent of) ts r = (a : ValueType) × (ts ≡ []) × (of ≡ ty.Opt a) × (r ≡ of)
OpType sig op.Present ts r = (a : ValueType) × (ts ≡ a ∷ []) × (r ≡ ty.Opt a)
OpType sig (op.Empty of) ts r = (a : ValueType) × (ts ≡ []) × (of ≡ ty.Many a) × (r ≡ of)
OpType sig op.Cons ts r = (a : ValueType) × (ts ≡ a ∷ ty.Many a ∷ []) × (r ≡ ty.Many a)
OpType sig (op.Tagged c) [] r = (d : ℕ) × (slice_get sig.variants c ≡ Some (d, None)) × (r ≡ ty.Datatype d)
OpType sig (op.Tagged c) (a ∷ ts) r =
    (d : ℕ) × (slice_get sig.variants c ≡ Some (d, Some a)) × (ts ≡ []) × (r ≡ ty.Datatype d)
OpType sig (op.Fail of) ts r = (ts ≡ ty.Xbody ∷ []) × (r ≡ of)
OpType sig (op.Markup of) ts r = MakeUp ts of × (r ≡ of)
OpType sig (op.Text text) ts r = (ts ≡ []) × IsUtf8 text × (r ≡ ty.Xbody)
OpType sig op.Shown ts r = (a : ValueType) × (ts ≡ a ∷ []) × IsScalar a × (r ≡ ty.Xbody)
OpType sig (op.Element tag) ts r = ElementStands tag ts r
OpType sig (op.Link route k) ts r =
    (post : Bool) × (slice_get sig.routes route ≡ Some (record { params = take k ts; get = true; post = post })) × Holds (drop k ts) r
OpType sig (op.Input k name text) ts r =
    (slice_get sig.names name.0 ≡ Some text) × IsValueFor k ts × (r ≡ form_type ((name, field_kind k) ∷ []))
OpType sig (op.Submit route k unit) ts r =
    (last : List (Name × ValueType)) × (get : Bool) × (slice_get sig.routes route ≡ Some (record { params = take k ts ++ record_type last ∷ []; get = get; post = true })) × IsUnitForm unit last
    × IsValueFor kind.Textbox (drop k ts) × (r ≡ form_type [])
OpType sig (op.Ask how site) ts r =
    (row : ValueType) × (slice_get sig.queries site ≡ Some (ts, row)) × (r ≡ answer_type how row)
OpType sig (op.Write update) ts r = (slice_get sig.changes update ≡ Some ts) × (r ≡ unit_type)
OpType sig (op.Next q) ts r = (ts ≡ []) × (q < sig.sequences) × (r ≡ ty.Int)
OpType sig (op.GetCookie c) ts r = (a : ValueType) × (ts ≡ []) × (slice_get sig.cookies c ≡ Some a) × (r ≡ ty.Opt a)
OpType sig (op.SetCookie c) ts r = (a : ValueType) × (ts ≡ a ∷ []) × (slice_get sig.cookies c ≡ Some a) × (r ≡ unit_type)

-- ---- patterns

abbrev pub args_of : Option ValueType → List ValueType
args_of None = []
args_of (Some a) = a ∷ []

-- a pattern at a type binds variables of these types
abbrev pub Binds : Signature → Pattern → ValueType → List ValueType → Type 0
Binds sig p.Any a bound = bound ≡ a ∷ []
Binds sig (p.Int i) a bound = (a ≡ ty.Int) × (bound ≡ [])
Binds sig (p.Str s) a bound = (a ≡ ty.Str) × (bound ≡ [])
Binds sig (p.Bool b) a bound = (a ≡ ty.Bool) × (bound ≡ [])
Binds sig p.Absent a bound = (b : ValueType) × (a ≡ ty.Opt b) × (bound ≡ [])
Binds sig p.Present a bound = (b : ValueType) × (a ≡ ty.Opt b) × (bound ≡ b ∷ [])
Binds sig p.Empty a bound = (b : ValueType) × (a ≡ ty.Many b) × (bound ≡ [])
Binds sig p.Cons a bound = (b : ValueType) × (a ≡ ty.Many b) × (bound ≡ b ∷ a ∷ [])
Binds sig (p.Tagged c) a bound = (d : ℕ) × (arg : Option ValueType) × (slice_get sig.variants c ≡ Some (d, arg)) × (a ≡ ty.Datatype d) × (bound ≡ args_of arg)

-- there are patterns, and they leave out no value of the type
pub data Cover (sig : Signature) (ps : List Pattern) : ValueType → Type 0 where
  by_any : (a : ValueType) → Contains ps p.Any → Cover sig ps a
  by_bool : Contains ps (p.Bool true) → Contains ps (p.Bool false) → Cover sig ps ty.Bool
  by_option : (a : ValueType) → Contains ps p.Absent → Contains ps p.Present → Cover sig ps (ty.Opt a)
  by_list : (a : ValueType) → Contains ps p.Empty → Contains ps p.Cons → Cover sig ps (ty.Many a)
  by_datatype : (d : ℕ) → ps ≢ [] → ((c : ℕ) (arg : Option ValueType) → slice_get sig.variants c ≡ Some (d, arg) → Contains ps (p.Tagged c)) → Cover sig ps (ty.Datatype d)

abbrev pub patterns_of : {m : _} → Row_of-Branch m → List Pattern
patterns_of end_of-Branch = []
patterns_of (more_of-Branch pattern body rest) = pattern ∷ patterns_of rest

-- ---- terms

-- under variables of these types, the term has the type
abbrev mutual
  pub HasType : Signature → List ValueType → Term → ValueType → Type 0
  HasType sig env (t.Variable i) r = slice_get env i ≡ Some r
  HasType sig env (t.Int i) r = (r ≡ ty.Int) × IsInt i
  HasType sig env (t.Str s) r = (r ≡ ty.Str) × IsUtf8 s
  HasType sig env (t.Bool b) r = r ≡ ty.Bool
  HasType sig env (t.Make' op _ args) r = (ts : List ValueType) × HaveTypes sig env args ts × OpType sig op ts r
  HasType sig env (t.Call' f _ args) r = (ts : List ValueType) × HaveTypes sig env args ts × (slice_get sig.functions f ≡ Some (ts, r))
  HasType sig env (t.Let' _ args _ body) r = (ts : List ValueType) × HaveTypes sig env args ts × OneHasType sig (ts ++ env) body r
  HasType sig env (t.If' _ c _ a _ b) r = OneHasType sig env c ty.Bool × OneHasType sig env a r × OneHasType sig env b r
  HasType sig env (t.Case' _ x _ branches) r =
      (a : ValueType) × OneHasType sig env x a × BranchesHave sig env a branches r × Cover sig (patterns_of branches) a
  HasType sig env (t.Each' _ rows _ body) r =
      (a : ValueType) × OneHasType sig env rows (ty.Many a) × OneHasType sig (a ∷ env) body r × IsXml r

  pub OneHasType : Signature → List ValueType → {m : _} → Row_of-Term m → ValueType → Type 0
  OneHasType sig env end_of-Term r = ⊥
  OneHasType sig env (more_of-Term x rest) r = HasType sig env x r

  pub HaveTypes : Signature → List ValueType → {m : _} → Row_of-Term m → List ValueType → Type 0
  HaveTypes sig env end_of-Term ts = ts ≡ []
  HaveTypes sig env (more_of-Term x rest) ts = (a : ValueType) × (others : List ValueType) × (ts ≡ a ∷ others) × HasType sig env x a × HaveTypes sig env rest others

  pub BranchesHave : Signature → List ValueType → ValueType → {m : _} → Row_of-Branch m → ValueType → Type 0
  BranchesHave sig env a end_of-Branch r = Unit {0}
  BranchesHave sig env a (more_of-Branch pattern body rest) r =
      (bound : List ValueType) × Binds sig pattern a bound × HasType sig (bound ++ env) body r × BranchesHave sig env a rest r

-- a function's body has its result's type
abbrev pub FitsFunction : Signature → Function → Type 0
FitsFunction sig f = HasType sig f.params f.body f.result

-- the types of a function's parameters and of its result
abbrev pub function_type : Function → List ValueType × ValueType
function_type f = (f.params, f.result)
