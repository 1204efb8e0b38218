-- What is evaluated: an expression or a part of XML under its closed static names, and its form.
use Rattle.std.specs.Prelude.{ℕ, Bool, true, false, ◌||◌, List, [], ◌∷◌, ◌++◌, map, length, slice_get, nat_lt, Option, Some, None, option_map, option_and_then, position, ◌==◌}
use Rattle.ur_base.specs.declared.names.Name.{Name}
use Rattle.ur_values.specs.declared.value.Value.{Value}
use Rattle.ur_values.specs.declared.value.Value.TheVariants as v
use Rattle.ur_terms.specs.declared.term.AnswerForm.TheVariants as how
use Rattle.ur_terms.specs.declared.term.Op.{Op}
use Rattle.ur_terms.specs.declared.term.Op.TheVariants as op
use Rattle.ur_terms.specs.Run.{Does}
use Rattle.ur_tags.specs.declared.routes.Handlers.{Handlers}
use Rattle.ur_rows.specs.declared.normal.Label.{Label}
use Rattle.ur_rows.specs.declared.normal.Label.TheVariants as label
use Rattle.ur_rows.specs.declared.normal.Normal.TheVariants as normal
use Rattle.ur_rows.specs.Put.{as_label, instance}
use Rattle.ur_tree.specs.declared.exp.Unary.{Unary}
use Rattle.ur_tree.specs.declared.exp.Unary.TheVariants as unary
use Rattle.ur_tree.specs.declared.exp.Binary.{Binary}
use Rattle.ur_tree.specs.declared.exp.Binary.TheVariants as binary
use Rattle.ur_tree.specs.declared.exp.Exp.{Exp, Exp-F, out-Exp}
use Rattle.ur_tree.specs.declared.exp.Exp.TheVariants as x
use Rattle.ur_tree.specs.declared.exp.Exp.TheOpen as f
use Rattle.ur_tree.specs.declared.exp.Markup.{Markup, Markup-F, out-Markup}
use Rattle.ur_tree.specs.declared.exp.Branch.{Branch}
use Rattle.ur_tree.specs.declared.exp.FieldExp.{FieldExp}
use Rattle.ur_tree.specs.declared.exp.Param.{Param}
use Rattle.ur_tree.specs.declared.typed.Function.{Function}
use Rattle.ur_tree.specs.declared.closed.Static.{Static, Static-F, out-Static}
use Rattle.ur_tree.specs.declared.closed.Static.TheOpen as st
use Rattle.ur_tree.specs.declared.closed.StaticField.{StaticField}
use Rattle.ur_tree.specs.declared.closed.Instance.{Instance}
use Rattle.ur_meaning.specs.Form.{Form, int_form, text_form, bool_form, variable_form, strict_form, same_form, choice_form, let_form, case_form, each_form, call_form, no_form, Language}
use Rattle.ur_source.specs.Reading.{Names, Cons, label_number, closed_type, result_type, cons_option, fold_steps}
use Rattle.ur_source.specs.Static.{static_of, names_static}

-- What evaluation reads of a project: its names, its routes and the function of each, what its modules' `val`s are, its
-- functions, and what operations do.
pub record Source : Type 0 where
  pub names : Names
  pub handlers : Handlers
  pub targets : List ℕ
  pub vals : List Static
  pub functions : List Function
  pub does : Does

-- closed constructors for the constructor variables, and closed static expressions for the static names
pub record Scope : Type 0 where
  pub cons : Cons
  pub fixed : List Static

pub data Item : Type 0 where
  exp : Scope → Exp → Item
  part : Scope → Markup → Item
  -- a closed static expression that is a value
  closed : Static → Item
  -- the value of a fold over these fields, by its step and its start
  folding : Scope → (step start : Exp) → List Cons → Item
  -- all rows of a query
  asking : Scope → ℕ → List Exp → Item

abbrev pub ItemForm : Type 0
ItemForm = Form Item Instance

abbrev pub OpenExp : Type 0
OpenExp = Exp-F Exp Markup Branch FieldExp

abbrev pub OpenMarkup : Type 0
OpenMarkup = Markup-F Exp Markup Branch FieldExp

-- ---- words

abbrev pub exps : Scope → List Exp → List Item
exps scope = map (exp scope)

abbrev pub markups : Scope → List Markup → List Item
markups scope = map (part scope)

abbrev pub optional : Scope → Option Exp → List Item
optional scope None = []
optional scope (Some e) = exp scope e ∷ []

-- the form that what is there gives
abbrev pub form_with : {A : Type 0} → Option A → (A → ItemForm) → ItemForm
form_with None go = no_form
form_with (Some y) go = go y

abbrev pub strict_with : {A : Type 0} → Option A → (A → Op) → List Item → ItemForm
strict_with a o items = form_with a (λ y. strict_form (o y) items)

-- the fold's step: its three constructors are bound
abbrev pub in_step : Cons → Scope → Scope
in_step k scope = record { cons = scope.cons ++ k; fixed = scope.fixed }

-- ---- static expressions

-- what an expression is where it is static
abbrev pub static_in : Source → Scope → Exp → Option Static
static_in p scope e = static_of p.names p.vals scope.cons scope.fixed e

abbrev pub are_none : List Param → Bool
are_none [] = true
are_none (q ∷ params) = false

abbrev pub is_constant : Option Function → Bool
is_constant None = false
is_constant (Some function) = are_none function.params

-- A projection, `--` or `++` in the place of a value is computed statically first only where a static name, or what is no
-- value, stands in a part; otherwise its parts are values and are evaluated in written order.
abbrev pub is_computed : Source → Exp → Bool
is_computed p e = names_static (λ k. is_constant (slice_get p.functions k)) e

abbrev pub only_where : Bool → Option Static → Option Static
only_where true c = c
only_where false c = None

-- as its closed static expression where it is static, and else in this form
abbrev pub if_static : Option Static → ItemForm → ItemForm
if_static None other = other
if_static (Some c) other = same_form (closed c)

abbrev pub literal_form : Value → ItemForm
literal_form (v.Int n) = int_form n
literal_form (v.Str t) = text_form t
literal_form (v.Bool b) = bool_form b
literal_form _ = no_form

-- a function without parameters is called at each use
abbrev pub constant_form : ℕ → Cons → List Param → ItemForm
constant_form k cons [] = call_form (record { function = k; cons = cons; fixed = [] }) []
constant_form k cons (q ∷ params) = no_form

abbrev pub closed_form : List Function → Static-F Static StaticField → ItemForm
closed_form functions (st.Literal y) = literal_form y
closed_form functions (st.Function k cons) = form_with (slice_get functions k) (λ function. constant_form k cons function.params)
closed_form functions (st.Lambda params body cons fixed) = no_form
closed_form functions (st.Record fs) = strict_form (op.Record (map (λ q. q.name) fs)) (map (λ q. closed q.of) fs)

-- ---- applications

abbrev pub if_fixed : Bool → Option Static → Option (List Static) → Option (List Static)
if_fixed true s rest = cons_option s rest
if_fixed false s rest = rest

abbrev pub if_value : Bool → Exp → List Exp → List Exp
if_value true a rest = rest
if_value false a rest = a ∷ rest

-- the static arguments, each of a static parameter
abbrev pub fixed_args : (Exp → Option Static) → List Param → List Exp → Option (List Static)
fixed_args static [] [] = Some []
fixed_args static (p ∷ ps) (a ∷ more) = if_fixed p.fixed (static a) (fixed_args static ps more)
fixed_args static _ _ = None

-- the value arguments
abbrev pub value_args : List Param → List Exp → List Exp
value_args (p ∷ ps) (a ∷ more) = if_value p.fixed a (value_args ps more)
value_args _ _ = []

-- A named function's call is that of an instance. A lambda's is a `let` of its value arguments.
abbrev pub applied_form : Source → Scope → List Exp → Static-F Static StaticField → ItemForm
applied_form p scope args (st.Function k cons) =
    form_with (slice_get p.functions k) (λ function.
    form_with (fixed_args (static_in p scope) function.params args) (λ fixed.
    call_form (record { function = k; cons = cons; fixed = fixed }) (exps scope (value_args function.params args))))
applied_form p scope args (st.Lambda params body cons known) =
    form_with (fixed_args (static_in p scope) params args) (λ fixed.
    let_form (exps scope (value_args params args)) (exp (record { cons = cons; fixed = fixed ++ known }) body))
applied_form p scope args (st.Literal y) = no_form
applied_form p scope args (st.Record fs) = no_form

-- ---- operators

abbrev pub unary_form : Scope → Unary → Exp → ItemForm
unary_form scope unary.Neg e = strict_form op.Neg (exp scope e ∷ [])
unary_form scope unary.Not e = strict_form op.Not (exp scope e ∷ [])
unary_form scope unary.Show e = strict_form op.Show (exp scope e ∷ [])
unary_form scope unary.Present e = strict_form op.Present (exp scope e ∷ [])
unary_form scope unary.Return e = same_form (exp scope e)

-- `&&` and `||` leave the right side where the left one decides
abbrev pub binary_form : Scope → Binary → Exp → Exp → ItemForm
binary_form scope binary.Add a b = strict_form op.Add (exp scope a ∷ exp scope b ∷ [])
binary_form scope binary.Sub a b = strict_form op.Sub (exp scope a ∷ exp scope b ∷ [])
binary_form scope binary.Mul a b = strict_form op.Mul (exp scope a ∷ exp scope b ∷ [])
binary_form scope binary.Div a b = strict_form op.Div (exp scope a ∷ exp scope b ∷ [])
binary_form scope binary.Rem a b = strict_form op.Rem (exp scope a ∷ exp scope b ∷ [])
binary_form scope binary.Append a b = strict_form op.Append (exp scope a ∷ exp scope b ∷ [])
binary_form scope binary.Equal a b = strict_form op.Equal (exp scope a ∷ exp scope b ∷ [])
binary_form scope binary.Unequal a b = strict_form op.Unequal (exp scope a ∷ exp scope b ∷ [])
binary_form scope binary.Less a b = strict_form op.Less (exp scope a ∷ exp scope b ∷ [])
binary_form scope binary.LessEqual a b = strict_form op.LessEqual (exp scope a ∷ exp scope b ∷ [])
binary_form scope binary.Greater a b = strict_form op.Greater (exp scope a ∷ exp scope b ∷ [])
binary_form scope binary.GreaterEqual a b = strict_form op.GreaterEqual (exp scope a ∷ exp scope b ∷ [])
binary_form scope binary.Cons a b = strict_form op.Cons (exp scope a ∷ exp scope b ∷ [])
binary_form scope binary.Join a b = strict_form op.Join (exp scope a ∷ exp scope b ∷ [])
binary_form scope binary.And a b = choice_form (exp scope a) (exp scope b) (exp scope (x.Bool false))
binary_form scope binary.Or a b = choice_form (exp scope a) (exp scope (x.Bool true)) (exp scope b)

-- ---- names of fields

abbrev pub field_numbers : Names → Cons → List FieldExp → Option (List Name)
field_numbers names cons [] = Some []
field_numbers names cons (g ∷ gs) = cons_option (label_number names cons g.name) (field_numbers names cons gs)

abbrev pub text_of : Label → Option (List ℕ)
text_of (label.Literal a) = Some a
text_of (label.Variable w) = None

-- the number and text of the name that a label stands for
abbrev pub label_name : Names → Cons → Label → Option (Name × List ℕ)
label_name names cons l =
    option_and_then (λ n. option_map (λ t. (n, t)) (text_of (as_label (instance cons (normal.Name l))))) (label_number names cons l)

-- the route of a page function
abbrev pub route_of : List ℕ → ℕ → Option ℕ
route_of targets k = position (λ n. n == k) targets

-- whether the call of a route has a unit last, after so many arguments
abbrev pub has_unit : Handlers → ℕ → ℕ → Option Bool
has_unit handlers r k = option_map (λ route. nat_lt k (length route.params)) (slice_get handlers.routes r)

-- ---- the table

-- The form of an expression that is open one level deep. `c` is what it is where it is static.
abbrev pub open_form : Source → Scope → Option Static → OpenExp → ItemForm
open_form p scope c (f.Int n) = int_form n
open_form p scope c (f.Str t) = text_form t
open_form p scope c (f.Bool b) = bool_form b
open_form p scope c f.Unit = strict_form (op.Record []) []
open_form p scope c (f.Variable n) = variable_form n
open_form p scope c (f.Fixed n) = if_static c no_form
open_form p scope c (f.Val n) = if_static c no_form
open_form p scope c (f.Function k cons) = if_static c no_form
open_form p scope c (f.Apply g args) = form_with (static_in p scope g) (λ s. applied_form p scope args (out-Static s))
open_form p scope c (f.Lambda params body) = no_form
open_form p scope c (f.Record fields) = strict_with (field_numbers p.names scope.cons fields) op.Record (map (λ g. exp scope g.of) fields)
open_form p scope c (f.Project e l) = if_static (only_where (is_computed p e) c) (strict_with (label_number p.names scope.cons l) op.Project (exp scope e ∷ []))
open_form p scope c (f.Cut e l) = if_static (only_where (is_computed p e) c) (strict_with (label_number p.names scope.cons l) op.Cut (exp scope e ∷ []))
open_form p scope c (f.Unary o e) = unary_form scope o e
open_form p scope c (f.Binary o a b) = if_static (only_where (is_computed p a || is_computed p b) c) (binary_form scope o a b)
open_form p scope c (f.Absent t) = strict_form (op.Absent (closed_type p.names scope.cons t)) []
open_form p scope c (f.Empty t) = strict_form (op.Empty (closed_type p.names scope.cons t)) []
open_form p scope c (f.Fail t e) = strict_form (op.Fail (result_type p.names scope.cons t).1) (exp scope e ∷ [])
open_form p scope c (f.Tagged k e) = strict_form (op.Tagged k) (optional scope e)
open_form p scope c (f.If e a b) = choice_form (exp scope e) (exp scope a) (exp scope b)
open_form p scope c (f.Case e bs) = case_form (exp scope e) (map (λ b. (b.pattern, exp scope b.body)) bs)
open_form p scope c (f.Let t e body) = let_form (exp scope e ∷ []) (exp scope body)
open_form p scope c (f.Bind e body) = let_form (exp scope e ∷ []) (exp scope body)
open_form p scope c (f.Next q) = strict_form (op.Next q) []
open_form p scope c (f.GetCookie k) = strict_form (op.GetCookie k) []
open_form p scope c (f.SetCookie k e) = strict_form (op.SetCookie k) (exp scope e ∷ [])
open_form p scope c (f.Write u args) = strict_form (op.Write u) (exps scope args)
open_form p scope c (f.Ask form q args) = strict_form (op.Ask form q) (exps scope args)
open_form p scope c (f.Each q args body) = each_form (asking scope q args) (exp scope body)
open_form p scope c (f.Fold of acc step start row) =
    if_static c (form_with (fold_steps scope.cons row) (λ ks. same_form (folding scope step start ks)))
open_form p scope c (f.Xml t ps) = strict_form (op.Markup (closed_type p.names scope.cons t)) (markups scope ps)

abbrev pub part_form : Source → Scope → OpenMarkup → ItemForm
part_form p scope (f.Text t) = strict_form (op.Text t) []
part_form p scope (f.Shown e) = strict_form op.Shown (exp scope e ∷ [])
part_form p scope (f.Splice e) = same_form (exp scope e)
part_form p scope (f.Element tag kids) = strict_form (op.Element tag) (markups scope kids)
-- a link or button evaluates the arguments of its target and calls nothing
part_form p scope (f.Link k args kids) = strict_with (route_of p.targets k) (λ r. op.Link r (length args)) (exps scope args ++ markups scope kids)
part_form p scope (f.Input kind l e) = strict_with (label_name p.names scope.cons l) (λ n. op.Input kind n.0 n.1) (optional scope e)
part_form p scope (f.Submit k args e) =
    form_with (route_of p.targets k) (λ r. strict_with (has_unit p.handlers r (length args)) (op.Submit r (length args)) (exps scope args ++ optional scope e))

-- the start, where no field is left; else the first field's step, `acc` standing for the fold of the others
abbrev pub fold_form : Scope → Exp → Exp → List Cons → ItemForm
fold_form scope step start [] = same_form (exp scope start)
fold_form scope step start (k ∷ ks) = let_form (folding scope step start ks ∷ []) (exp (in_step k scope) step)

abbrev pub form_of : Source → Item → ItemForm
form_of p (exp scope e) = open_form p scope (static_in p scope e) (out-Exp e)
form_of p (part scope m) = part_form p scope (out-Markup m)
form_of p (closed c) = closed_form p.functions (out-Static c)
form_of p (folding scope step start ks) = fold_form scope step start ks
form_of p (asking scope q args) = strict_form (op.Ask how.All q) (exps scope args)

-- the scope in which an instance's body stands
abbrev pub scope_of : Instance → Scope
scope_of i = record { cons = i.cons; fixed = i.fixed }

abbrev pub body_of : Source → Instance → Option Item
body_of p i = option_map (λ function. exp (scope_of i) function.body) (slice_get p.functions i.function)

abbrev pub language_of : Source → Language Item Instance
language_of p = record { form = form_of p; body = body_of p; does = p.does }
