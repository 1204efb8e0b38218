-- What typing gives: a run is never stuck, and gives a value of the type.
use Rattle.std.specs.Prelude.{◌≡◌, ◌≢◌, ℕ, suc, ◌<◌, ◌≤◌, ℤ, pos, ◌+ℤ◌, Bool, true, List, [], ◌∷◌, ◌++◌, Option, Some, None, slice_get, slice_set}
use Rattle.std.specs.List.{Contains, AllByRecursion, AllZip}
use Rattle.std.specs.Str.{IsUtf8}
use Rattle.ur_values.specs.declared.types.ValueType.{ValueType}
use Rattle.ur_values.specs.declared.types.ValueType.TheVariants as ty
use Rattle.ur_values.specs.declared.value.Value.TheVariants as v
use Rattle.ur_base.specs.declared.names.Name.{Name}
use Rattle.ur_values.specs.declared.value.Node.{Node}
use Rattle.ur_values.specs.declared.value.Node.TheVariants as n
use Rattle.ur_values.specs.declared.value.Tag.{Tag}
use Rattle.ur_values.specs.declared.value.FieldKind.{FieldKind}
use Rattle.ur_values.specs.Sql.{Sql, Changed, After}
use Rattle.ur_values.specs.Store.{Store}
use Rattle.ur_values.specs.Values.{IsInt}
use Rattle.ur_terms.specs.Ops.{with_unit}
use Rattle.ur_terms.specs.declared.term.Op.{Op}
use Rattle.ur_terms.specs.declared.term.Pattern.{Pattern}
use Rattle.ur_terms.specs.Values.{as_bool, as_items}
use Rattle.ur_terms.specs.Run.{Does, Calls, joined, matched}
use Rattle.ur_terms.specs.Types.{Signature, OpType, Binds, Cover, IsXml, IsUnitForm, record_type}
use Rattle.ur_values.specs.declared.value.Value.{Value}
use Rattle.ur_terms.specs.State.{State, Outcome, Done, Error, Spent, Stuck, charge}

-- What a run comes to: P holds of its result and S of the state after it, or B of the body that an error shows, or the
-- budget is spent. It is not stuck.
abbrev pub Comes : {A : Type 0} → (A → Type 0) → (State → Type 0) → (Value → Type 0) → Outcome A → Type 0
Comes P S B (Done x s) = P x × S s
Comes P S B (Error body events) = B body
Comes P S B (Spent events) = Unit {0}
Comes P S B Stuck = ⊥

-- what a pattern binds, where it matches
abbrev pub Met : (Value → ValueType → Type 0) → Option (List Value) → List ValueType → Type 0
Met V None bound = Unit {0}
Met V (Some xs) bound = AllZip V xs bound

-- What typed values are, and that operations keep to their types.
pub record Typing (sig : Signature) (V : Value → ValueType → Type 0) (S : State → Type 0) (B : Value → Type 0) (d : Does) : Type 0 where
  pub int : (i : ℤ) → IsInt i → V (v.Int i) ty.Int
  pub text : (s : List ℕ) → IsUtf8 s → V (v.Str s) ty.Str
  pub bool : (b : Bool) → V (v.Bool b) ty.Bool
  pub as_bool : (x : Value) → V x ty.Bool → (b : Bool) × (as_bool x ≡ Some b)
  pub as_items : (x : Value) (a : ValueType) → V x (ty.Many a) → (xs : List Value) × (as_items x ≡ Some xs) × AllByRecursion (λ y. V y a) xs
  pub binds : (p : Pattern) (a : ValueType) (bound : List ValueType) (x : Value) → Binds sig p a bound → V x a → Met V (matched p x) bound
  pub covers : (ps : List Pattern) (a : ValueType) (x : Value) → Cover sig ps a → V x a → (p : Pattern) × Contains ps p × (matched p x ≢ None)
  pub joins : (r : ValueType) (xs : List Value) (s : State) → IsXml r → AllByRecursion (λ y. V y r) xs → S s → Comes (λ x. V x r) S B (joined xs s)
  pub deeds : (o : Op) (ts : List ValueType) (r : ValueType) (xs : List Value) (s : State) → OpType sig o ts r → AllZip V xs ts → S s → Comes (λ x. V x r) S B (d o xs s)

-- calls of the functions that are declared keep to their types
abbrev pub KeepCalls : Signature → (Value → ValueType → Type 0) → (State → Type 0) → (Value → Type 0) → Calls → Type 0
KeepCalls sig V S B c = (f : ℕ) (ts : List ValueType) (r : ValueType) (xs : List Value) (s : State) → slice_get sig.functions f ≡ Some (ts, r) → AllZip V xs ts → S s
    → Comes (λ x. V x r) S B (charge 1 s (c f xs))

-- ---- operations

-- What is said of XML is kept where XML is put together: of a link's call, that its route is got and takes the arguments;
-- of a button's, that its route is posted to and takes the arguments and, unless the form has no fields, the form's record.
pub record KeepsXml (own : Value → Type 0) (sig : Signature) (V : Value → ValueType → Type 0) : Type 0 where
  pub none : own (v.Markup [])
  pub together : (a b : List Node) → own (v.Markup a) → own (v.Markup b) → own (v.Markup (a ++ b))
  pub text : (t : List ℕ) → IsUtf8 t → own (v.Markup (n.Text t ∷ []))
  pub element : (tag : Tag) (kids : List Node) → own (v.Markup kids) → own (v.Markup (n.Element tag kids ∷ []))
  pub link : (route : ℕ) (params : List ValueType) (post : Bool) (args : List Value) (kids : List Node)
      → slice_get sig.routes route ≡ Some (record { params = params; get = true; post = post }) → AllZip V args params → own (v.Markup kids)
      → own (v.Markup (n.Link (record { route = route; args = args }) kids ∷ []))
  pub field : (kind : FieldKind) (name : List ℕ) (value : Option (List ℕ)) → own (v.Markup (n.Field kind name value ∷ []))
  pub submit : (route : ℕ) (params : List ValueType) (last : List (Name × ValueType)) (get unit : Bool) (args : List Value) (label : Option (List ℕ))
      → slice_get sig.routes route ≡ Some (record { params = params ++ record_type last ∷ []; get = get; post = true }) → IsUnitForm unit last → AllZip V args params
      → own (v.Markup (n.Submit (record { route = route; args = with_unit unit args }) label ∷ []))

abbrev pub IfAfter : (Store → Type 0) → Changed Store → Type 0
IfAfter kept (After store) = kept store
IfAfter kept _ = Unit {0}

-- What is kept of a store by so many units holds by fewer. Queries answer rows of their types, changes keep it, and a
-- sequence gives an int and keeps it by one unit less, which is the unit that a draw costs: there is no greatest int but
-- the units are bounded.
pub record KeepsTables (sig : Signature) (V : Value → ValueType → Type 0) (kept : ℕ → Store → Type 0) (sql : Sql) : Type 0 where
  pub fewer : (u w : ℕ) (store : Store) → w ≤ u → kept u store → kept w store
  pub answers : (site : ℕ) (ts : List ValueType) (row : ValueType) (key : List Value) (u : ℕ) (store : Store) → slice_get sig.queries site ≡ Some (ts, row)
      → AllZip V key ts → kept u store → AllByRecursion (λ x. V x row) (sql.answer site key store)
  pub changes : (update : ℕ) (ts : List ValueType) (args : List Value) (u : ℕ) (store : Store) → slice_get sig.changes update ≡ Some ts → AllZip V args ts
      → kept u store → IfAfter (kept u) (sql.change update args store)
  pub tables : (update : ℕ) → IsUtf8 (sql.table update)
  pub draws : (q u : ℕ) (store : Store) → q < sig.sequences → kept (suc u) store
      → (n : ℤ) × (slice_get store.sequences q ≡ Some n) × IsInt n × kept u (record store { sequences = slice_set store.sequences q (n +ℤ pos 1) })

-- so many sequences have numbers that stay ints while so many units are drawn
abbrev pub NumbersLast : ℕ → ℕ → Store → Type 0
NumbersLast count u store =
    (q : ℕ) → q < count → (n : ℤ) × (slice_get store.sequences q ≡ Some n) × IsInt n × IsInt (n +ℤ pos u)

-- A state of the program: what is kept of its store by the units left, and its cookies of their types, each of which may
-- be missing.
abbrev pub IsStateOf : Signature → (Value → ValueType → Type 0) → (ℕ → Store → Type 0) → State → Type 0
IsStateOf sig V kept s = kept s.units s.store × AllZip (λ x t. V x (ty.Opt t)) s.carried sig.cookies
