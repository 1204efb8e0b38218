-- The type that is found for an expression, and the types against which it checks: one rule for each form.
use Rattle.std.specs.Prelude.{◌≡◌, ◌+◌, ◌<◌, ◌≤◌, ◌||◌, ◌&&◌, not, ℕ, Bool, true, false, List, [], ◌∷◌, ◌++◌, map, length, Option, Some, None, IsTrue, slice_get}
use Rattle.ur_syntax.specs.declared.kind.Kind.TheVariants as kind
use Rattle.ur_values.specs.declared.value.Tag.{Tag}
use Rattle.ur_values.specs.declared.value.Tag.TheVariants as tag
use Rattle.ur_values.specs.declared.schema.ColumnKind.{ColumnKind}
use Rattle.ur_terms.specs.declared.term.AnswerForm.{AnswerForm}
use Rattle.ur_terms.specs.declared.term.AnswerForm.TheVariants as answer
use Rattle.ur_terms.specs.declared.term.Pattern.{Pattern}
use Rattle.ur_rows.specs.declared.normal.Var.TheVariants as var
use Rattle.ur_rows.specs.declared.normal.Label.{Label}
use Rattle.ur_rows.specs.declared.normal.Label.TheVariants as label
use Rattle.ur_rows.specs.declared.normal.NormalType.{NormalType, end_of-NormalType as sole, more_of-NormalType as the}
use Rattle.ur_rows.specs.declared.normal.NormalType.TheVariants as ty
use Rattle.ur_rows.specs.declared.normal.Part.{Part}
use Rattle.ur_rows.specs.declared.normal.Part.TheVariants as part
use Rattle.ur_rows.specs.declared.normal.Normal.{Normal}
use Rattle.ur_rows.specs.Apart.{Assumptions, Apart, AreApart}
use Rattle.ur_rows.specs.Kinded.{label_is_in}
use Rattle.ur_rows.specs.Nodes.{type_nodes}
use Rattle.ur_rows.specs.Order.{with_part, joined}
use Rattle.ur_rows.specs.Made.{unit, record_of, form_of}
use Rattle.ur_rows.specs.Put.{instance_type}
use Rattle.ur_rows.specs.Types.{option_of, list_of, transaction_of, arrows_of, field, at_row, field_type, without, holds_arrow, is_placed, may_run, is_value_type}
use Rattle.ur_tree.specs.declared.exp.Unary.{Unary}
use Rattle.ur_tree.specs.declared.exp.Unary.TheVariants as unary
use Rattle.ur_tree.specs.declared.exp.Binary.{Binary}
use Rattle.ur_tree.specs.declared.exp.Binary.TheVariants as binary
use Rattle.ur_tree.specs.declared.exp.Param.{Param}
use Rattle.ur_tree.specs.declared.exp.Exp.{Exp}
use Rattle.ur_tree.specs.declared.exp.Exp.TheVariants as exp
use Rattle.ur_tree.specs.declared.exp.Exp.TheBlock.{Row_of-Exp, end_of-Exp as alone, more_of-Exp as its, Row_of-FieldExp, end_of-FieldExp, more_of-FieldExp, Row_of-Branch, end_of-Branch, more_of-Branch, Row_of-Markup, end_of-Markup as end, more_of-Markup as more, Held-Exp-Tagged-1, None', Some'}
use Rattle.ur_tree.specs.declared.exp.Markup.{Markup}
use Rattle.ur_tree.specs.declared.exp.Markup.TheVariants as markup
use Rattle.ur_tree.specs.Scalars.{kind_type, is_basic, is_ordered}
use Rattle.ur_tree.specs.Places.{Place, in_form, is_flow, holds_text, holds_fields, place_type, inside, may_have_value, Sort, page, body, table, row, fields, sort_of, place_of, fields_found}
use Rattle.ur_tree.specs.Places as places
use Rattle.ur_tree.specs.IsStatic.{is_static, wants_type}
use Rattle.ur_tree.specs.Heads.{Head, Declared, function_type}
use Rattle.ur_tree.specs.Env.{Env, variables, with_value, with_values, within_lambda, with_param, IsType, IsRow, AreArguments, row_is_plain}
use Rattle.ur_tree.specs.Patterns.{bound_by, Covers}

-- ---- operators

-- What an operator asks of its sides and gives.
pub data Operation : Type 0 where
  -- both sides of one type, and the type that it gives
  of_two : NormalType → NormalType → Operation
  -- two equal types that pass a test; it gives bool
  compares : (NormalType → Bool) → Operation
  conses : Operation
  joins : Operation

abbrev pub operation : Binary → Operation
operation binary.Add = of_two ty.Int ty.Int
operation binary.Sub = of_two ty.Int ty.Int
operation binary.Mul = of_two ty.Int ty.Int
operation binary.Div = of_two ty.Int ty.Int
operation binary.Rem = of_two ty.Int ty.Int
operation binary.Append = of_two ty.Str ty.Str
operation binary.And = of_two ty.Bool ty.Bool
operation binary.Or = of_two ty.Bool ty.Bool
operation binary.Equal = compares is_basic
operation binary.Unequal = compares is_basic
operation binary.Less = compares is_ordered
operation binary.LessEqual = compares is_ordered
operation binary.Greater = compares is_ordered
operation binary.GreaterEqual = compares is_ordered
operation binary.Cons = conses
operation binary.Join = joins

-- what is known of a part: which types are found of it, or which it checks against
abbrev pub Typing : Type 1
Typing = NormalType → Type 0

-- `found` and `wanted` of the left side and of the right side, and the type found of the whole
abbrev pub TwoSides : Operation → Assumptions → Typing → Typing → Typing → Typing → Typing
TwoSides (of_two u v) known fa wa fb wb t = (t ≡ v) × wa u × wb u
TwoSides (compares test) known fa wa fb wb t = (t ≡ ty.Bool) × ((u : NormalType) × fa u × IsTrue (test u) × wb u)
TwoSides conses known fa wa fb wb t = (u : NormalType) × (t ≡ list_of u) × fa u × wb (list_of u)
TwoSides joins known fa wa fb wb t = (r : List Part) × (s : List Part) × (t ≡ record_of (joined r s)) × fa (record_of r) × fb (record_of s) × Apart known r s

abbrev pub OneSide : Unary → Typing → Typing → Typing
OneSide unary.Neg found wanted t = (t ≡ ty.Int) × wanted ty.Int
OneSide unary.Not found wanted t = (t ≡ ty.Bool) × wanted ty.Bool
OneSide unary.Show found wanted t = (t ≡ ty.Str) × ((u : NormalType) × found u × IsTrue (is_basic u))
OneSide unary.Present found wanted t = (u : NormalType) × (t ≡ option_of u) × found u
OneSide unary.Return found wanted t = (u : NormalType) × (t ≡ transaction_of u) × found u

-- ---- parameters and calls

-- a parameter is static exactly where its type holds an arrow
pub record IsParam (env : Env) (p : Param) : Type 0 where
  pub written : IsType env p.of
  pub placed : IsTrue (is_placed p.of)
  pub fixed : p.fixed ≡ holds_arrow p.of

abbrev pub AreParams : Env → List Param → Type 0
AreParams env [] = Unit {0}
AreParams env (p ∷ ps) = IsParam env p × AreParams env ps

abbrev pub types_of : List Param → List NormalType
types_of = map (λ p. p.of)

-- a parameter is static at the arguments too exactly where it is by its own type
abbrev pub keeps_arrows : List Normal → List Param → Bool
keeps_arrows cons [] = true
keeps_arrows cons (p ∷ ps) = (not p.fixed || holds_arrow (instance_type cons p.of)) && keeps_arrows cons ps

-- what stands at a static parameter is static
abbrev pub are_static_at : {n : _} → List Param → Row_of-Exp n → Bool
are_static_at (p ∷ ps) (its e rest) = (not p.fixed || is_static e) && are_static_at ps rest
are_static_at ps es = true

-- the parameters of a type of functions, and its result
abbrev pub with_parameter : NormalType → List NormalType × NormalType → List NormalType × NormalType
with_parameter t f = (t ∷ f.0, f.1)

abbrev pub parameters : NormalType → List NormalType × NormalType
parameters (ty.Arrow' _ (the a sole) _ (the b sole)) = with_parameter a (parameters b)
parameters t = ([], t)

-- the function that is called by its name, with its constructor arguments
abbrev pub called : {n : _} → Row_of-Exp n → Option (ℕ × List Normal)
called (its (exp.Function f cons) rest) = Some (f, cons)
called _ = None

-- A call of a named function, or of what is static otherwise, to all its arguments. `args` says that the arguments check against types.
abbrev pub Applies : Declared → ℕ → Env → Option (ℕ × List Normal) → (List Param → Bool) → Typing → (List NormalType → Type 0) → Typing
Applies d most env (Some c) static head args t = (f : Head) × (slice_get d.functions c.0 ≡ Some f) × AreArguments env f.cons c.1
    × (type_nodes (instance_type c.1 (function_type f)) ≤ most) × IsTrue (static f.params)
    × args (map (λ p. instance_type c.1 p.of) f.params) × (t ≡ instance_type c.1 f.result)
Applies d most env None static head args t = (u : NormalType) × head u × args (parameters u).0 × (t ≡ (parameters u).1)

-- ---- queries and cookies

-- the type of a query's answer with this row
abbrev pub answer_type : AnswerForm → List Part → NormalType
answer_type answer.All r = list_of (record_of r)
answer_type answer.One r = record_of r
answer_type answer.OneOrNone r = option_of (record_of r)

-- ---- folds

-- the variables that the step of a fold binds: a name, a type, and the rest of the row
abbrev pub step_name : Env → Label
step_name env = label.Variable (var.Free (length env.kinds))

abbrev pub step_type : Env → NormalType
step_type env = ty.Variable (var.Free (length env.kinds + 1))

abbrev pub step_rest : Env → List Part
step_rest env = part.Piece (var.Free (length env.kinds + 2)) ∷ []

-- `[nm = t] ++ rest`
abbrev pub step_row : Env → List Part
step_row env = with_part (field (step_name env) (step_type env)) (step_rest env)

-- within the step of a fold: its three variables, the assumption that its name is apart from the rest, and `acc`
abbrev pub within_step : Param → Env → Env
within_step acc env = with_param acc (record env {
  kinds = env.kinds ++ kind.Name ∷ kind.Star ∷ kind.Row ∷ [];
  known = (field (step_name env) unit ∷ [], step_rest env) ∷ env.known;
})

-- ---- links and actions

-- a function without constructor and static parameters whose result is `transaction page`
abbrev pub no_fixed : List Param → Bool
no_fixed [] = true
no_fixed (p ∷ ps) = not p.fixed && no_fixed ps

pub record IsPage (f : Head) : Type 0 where
  pub no_cons : f.cons ≡ []
  pub values : IsTrue (no_fixed f.params)
  pub result : f.result ≡ transaction_of ty.Page

-- a page function, with the types of its parameters
abbrev pub Targets : Declared → ℕ → List NormalType → Type 0
Targets d f params = (h : Head) × (slice_get d.functions f ≡ Some h) × IsPage h × (types_of h.params ≡ params)

-- int, string, bool and unit
abbrev pub is_linkable : NormalType → Bool
is_linkable (ty.Record' [] r) = true
is_linkable t = is_basic t

abbrev pub are_linkable : List NormalType → Bool
are_linkable [] = true
are_linkable (t ∷ ts) = is_linkable t && are_linkable ts

-- ---- XML

abbrev pub sort_of_tag : Tag → Sort
sort_of_tag tag.Head = page
sort_of_tag tag.Body = page
sort_of_tag tag.Tr = table
sort_of_tag tag.Td = row
sort_of_tag tag.Th = row
sort_of_tag _ = body

-- the sort that a literal has by its first element
abbrev pub first_sort : {n : _} → Row_of-Markup n → Sort
first_sort end = body
first_sort (more (markup.Element' g _ parts) rest) = sort_of_tag g
first_sort (more (markup.Link' k _ args _ parts) rest) = body
first_sort (more (markup.Input' k l v) rest) = fields
first_sort (more (markup.Submit' k _ args v) rest) = body
first_sort (more m rest) = first_sort rest

-- the body of a page, after its head or alone
abbrev pub is_page : {n : _} → Row_of-Markup n → Bool
is_page (more (markup.Element' tag.Body _ parts) end) = true
is_page (more (markup.Element' tag.Head _ head) (more (markup.Element' tag.Body _ parts) end)) = true
is_page _ = false

abbrev pub is_framed : {n : _} → Sort → Row_of-Markup n → Bool
is_framed page parts = is_page parts
is_framed s parts = true

-- the fields of the parts are those of the literal's type
abbrev pub HasFields : Assumptions → Sort → NormalType → List Part → Type 0
HasFields known fields t r = (t ≡ form_of r) × AreApart known r
HasFields known s t r = r ≡ []

-- a literal of a type, `framed` saying that its parts are those of a page, and `marks` which fields they have at a place
abbrev pub Literal : Assumptions → (Sort → Bool) → (Place → List Part → Type 0) → Typing
Literal known framed marks t = (s : Sort) × (r : List Part) × (sort_of t ≡ Some s) × IsTrue (framed s) × marks (place_of s) r × HasFields known s t r

-- what is spliced at a place, with its fields
abbrev pub SpliceAt : Place → Bool → Typing → Typing → List Part → Type 0
SpliceAt places.in_form false found wanted r = (t : NormalType) × found t × (fields_found t ≡ Some r)
SpliceAt places.in_form true found wanted r = wanted ty.Xbody × (r ≡ [])
SpliceAt places.in_fields false found wanted r = (t : NormalType) × found t × (fields_found t ≡ Some r)
SpliceAt places.in_fields true found wanted r = wanted ty.Xbody × (r ≡ [])
SpliceAt p own found wanted r = (t : NormalType) × (place_type p ≡ Some t) × wanted t × (r ≡ [])

-- what an element holds, `within` saying which parts stand at a place with which fields, in the form with these fields
abbrev pub ElementAt : Assumptions → Place → Tag → (Place → List Part → List Part → Type 0) → List Part → List Part → Type 0
ElementAt known p tag.Form within r own = (inside p tag.Form ≡ Some in_form) × ((q : List Part) × within in_form q q × AreApart known q) × (r ≡ [])
ElementAt known p g within r own = (q : Place) × (inside p g ≡ Some q) × within q own r

-- ---- the rules

-- a type is within the limit, a `transaction` stands in it only where one may, and with an arrow in it the expression is static
abbrev pub Accepts : ℕ → Exp → NormalType → Type 0
Accepts most e t = (type_nodes t ≤ most) × IsTrue (may_run t) × IsTrue (not (holds_arrow t) || is_static e)

abbrev pub passes_operand : Unary → Bool
passes_operand unary.Present = true
passes_operand unary.Return = true
passes_operand _ = false

abbrev pub passes_sides : Binary → Bool
passes_sides binary.Cons = true
passes_sides _ = false

-- the forms that have a rule of their own for checking
abbrev pub has_rule : Exp → Bool
has_rule (exp.Absent t) = true
has_rule (exp.Empty t) = true
has_rule (exp.Fail' t _ e) = true
has_rule (exp.Unary' op _ e) = passes_operand op
has_rule (exp.Binary' op _ a _ b) = passes_sides op
has_rule (exp.Record' _ fs) = true
has_rule (exp.Lambda' params _ e) = true
has_rule (exp.If' _ c _ a _ b) = true
has_rule (exp.Case' _ e _ branches) = true
has_rule (exp.Let' t _ e _ rest) = true
has_rule (exp.Bind' _ a _ b) = true
has_rule (exp.Each' q _ args _ rest) = true
has_rule (exp.Xml' t _ parts) = true
has_rule _ = false

abbrev pub ByRule : Bool → Type 0 → Type 0 → Type 0
ByRule true passes finds = passes
ByRule false passes finds = finds

abbrev mutual
  -- The type found of an expression. No type of the typing has more than `most` nodes.
  pub Finds : Declared → ℕ → Env → Exp → NormalType → Type 0
  Finds d most env (exp.Int n) t = t ≡ ty.Int
  Finds d most env (exp.Str s) t = t ≡ ty.Str
  Finds d most env (exp.Bool b) t = t ≡ ty.Bool
  Finds d most env exp.Unit t = t ≡ unit
  Finds d most env (exp.Variable i) t = slice_get env.values i ≡ Some t
  Finds d most env (exp.Fixed i) t = slice_get env.fixed i ≡ Some t
  Finds d most env (exp.Val v) t = slice_get d.vals v ≡ Some t
  -- a named function that is not applied at once may become an argument, so its static parameters stay static
  Finds d most env (exp.Function f cons) t = (h : Head) × (slice_get d.functions f ≡ Some h) × AreArguments env h.cons cons × IsTrue (keeps_arrows cons h.params)
      × (t ≡ instance_type cons (function_type h))
  Finds d most env (exp.Apply' _ f (_ ∷ s) args) t = Applies d most env (called f) (λ ps. are_static_at ps args) (Found d most env f) (AreWanted d most env args) t
  Finds d most env (exp.Lambda' params _ e) t = AreParams env params × ((u : NormalType) × (t ≡ arrows_of (types_of params) u) × IsTrue (not (holds_arrow u)) × Found d most (within_lambda params env) e u)
  Finds d most env (exp.Record' _ fs) t = (r : List Part) × (t ≡ record_of r) × FindFields d most env fs r × AreApart env.known r
  Finds d most env (exp.Project' _ e l) t = (r : List Part) × Found d most env e (record_of r) × (field_type l r ≡ Some t)
  Finds d most env (exp.Cut' _ e l) t = (r : List Part) × (u : NormalType) × Found d most env e (record_of r) × (field_type l r ≡ Some u) × (t ≡ record_of (without l r))
  Finds d most env (exp.Unary' op _ e) t = OneSide op (Found d most env e) (Wanted d most env e) t
  Finds d most env (exp.Binary' op _ a _ b) t = TwoSides (operation op) env.known (Found d most env a) (Wanted d most env a) (Found d most env b) (Wanted d most env b) t
  Finds d most env (exp.Tagged' c e) t = (v : ℕ × Option NormalType) × (slice_get d.variants c ≡ Some v) × (t ≡ ty.Datatype v.0) × HeldIsWanted d most env e v.1
  Finds d most env (exp.If' _ c _ a _ b) t = Wanted d most env c ty.Bool × Found d most env a t × Wanted d most env b t
  -- the type of the first branch is found, and the others check against it
  Finds d most env (exp.Case' _ e _ branches) t = (u : NormalType) × (ps : List Pattern) × Found d most env e u × FindBranches d most env u branches ps t × Covers d u ps
  Finds d most env (exp.Let' u _ e _ rest) t = IsType env u × IsTrue (is_value_type u) × Wanted d most env e u × Found d most (with_value u env) rest t
  Finds d most env (exp.Bind' _ a _ b) t = (u : NormalType) × (v : NormalType) × Found d most env a (transaction_of u) × (t ≡ transaction_of v) × Found d most (with_value u env) b t
  Finds d most env (exp.Next q) t = (q < d.sequences) × (t ≡ transaction_of ty.Int)
  Finds d most env (exp.GetCookie c) t = (k : ColumnKind) × (slice_get d.cookies c ≡ Some k) × (t ≡ transaction_of (option_of (kind_type k)))
  Finds d most env (exp.SetCookie' c _ e) t = (k : ColumnKind) × (slice_get d.cookies c ≡ Some k) × Wanted d most env e (kind_type k) × (t ≡ transaction_of unit)
  Finds d most env (exp.Write' u _ args) t = (ks : List ColumnKind) × (slice_get d.changes u ≡ Some ks) × AreFound d most env args (map kind_type ks) × (t ≡ transaction_of unit)
  Finds d most env (exp.Ask' how q _ args) t = (k : List ColumnKind × List Part) × (slice_get d.queries q ≡ Some k) × AreFound d most env args (map kind_type k.0) × (t ≡ transaction_of (answer_type how k.1))
  Finds d most env (exp.Each' q _ args _ rest) t = (k : List ColumnKind × List Part) × (u : NormalType) × (slice_get d.queries q ≡ Some k) × AreFound d most env args (map kind_type k.0)
      × Found d most (with_value (record_of k.1) env) rest u × ((s : Sort) × (sort_of u ≡ Some s)) × (t ≡ transaction_of u)
  -- `acc` has the type of the fold of the rest, the step that of the fold with one field more
  Finds d most env (exp.Fold' f acc _ step _ start r) t = IsParam (within_step acc env) acc × IsRow env r × IsTrue (row_is_plain r) × (acc.of ≡ at_row f (step_rest env))
      × Wanted d most env start (at_row f []) × Wanted d most (within_step acc env) step (at_row f (step_row env)) × (t ≡ at_row f r)
  Finds d most env (exp.Xml' u _ parts) t = (t ≡ u) × (sort_of u ≡ Some (first_sort parts)) × Literal env.known (λ s. is_framed s parts) (λ p r. Marks d most env p parts [] r) u
  Finds d most env _ t = ⊥

  -- The rules by which a wanted type is passed on.
  pub Passes : Declared → ℕ → Env → Exp → NormalType → Type 0
  Passes d most env (exp.Absent u) t = (t ≡ u) × ((v : NormalType) × (t ≡ option_of v))
  Passes d most env (exp.Empty u) t = (t ≡ u) × ((v : NormalType) × (t ≡ list_of v))
  Passes d most env (exp.Fail' u _ e) t = (t ≡ u) × Wanted d most env e ty.Xbody
  Passes d most env (exp.Unary' unary.Present _ e) t = (u : NormalType) × (t ≡ option_of u) × Wanted d most env e u
  Passes d most env (exp.Unary' unary.Return _ e) t = (u : NormalType) × (t ≡ transaction_of u) × Wanted d most env e u
  Passes d most env (exp.Binary' binary.Cons _ a _ b) t = (u : NormalType) × (t ≡ list_of u) × Wanted d most env a u × Wanted d most env b t
  -- a record with just the wanted fields
  Passes d most env (exp.Record' _ fs) t = (r : List Part) × (t ≡ record_of r) × WantFields d most env fs r × AreApart env.known r
  Passes d most env (exp.Lambda' params _ e) t = AreParams env params × ((u : NormalType) × (t ≡ arrows_of (types_of params) u) × IsTrue (not (holds_arrow u)) × Wanted d most (within_lambda params env) e u)
  Passes d most env (exp.If' _ c _ a _ b) t = Wanted d most env c ty.Bool × Wanted d most env a t × Wanted d most env b t
  Passes d most env (exp.Case' _ e _ branches) t = (u : NormalType) × (ps : List Pattern) × Found d most env e u × WantBranches d most env u branches ps t × Covers d u ps
  Passes d most env (exp.Let' u _ e _ rest) t = IsType env u × IsTrue (is_value_type u) × Wanted d most env e u × Wanted d most (with_value u env) rest t
  Passes d most env (exp.Bind' _ a _ b) t = (u : NormalType) × (v : NormalType) × Found d most env a (transaction_of u) × (t ≡ transaction_of v) × Wanted d most (with_value u env) b t
  Passes d most env (exp.Each' q _ args _ rest) t = (k : List ColumnKind × List Part) × (u : NormalType) × (slice_get d.queries q ≡ Some k) × AreFound d most env args (map kind_type k.0)
      × Wanted d most (with_value (record_of k.1) env) rest u × ((s : Sort) × (sort_of u ≡ Some s)) × (t ≡ transaction_of u)
  Passes d most env (exp.Xml' u _ parts) t = (t ≡ u) × Literal env.known (λ s. is_framed s parts) (λ p r. Marks d most env p parts [] r) t
  Passes d most env _ t = ⊥

  -- the same of a part, whose type is accepted
  pub Found : {n : _} → Declared → ℕ → Env → Row_of-Exp n → NormalType → Type 0
  Found d most env alone t = ⊥
  Found d most env (its e rest) t = Finds d most env e t × Accepts most e t

  pub Wanted : {n : _} → Declared → ℕ → Env → Row_of-Exp n → NormalType → Type 0
  Wanted d most env alone t = ⊥
  Wanted d most env (its e rest) t = ByRule (has_rule e) (Passes d most env e t) (Finds d most env e t) × Accepts most e t

  pub AreFound : {n : _} → Declared → ℕ → Env → Row_of-Exp n → List NormalType → Type 0
  AreFound d most env alone ts = ts ≡ []
  AreFound d most env (its e rest) ts = (t : NormalType) × (us : List NormalType) × (ts ≡ t ∷ us) × Finds d most env e t × Accepts most e t × AreFound d most env rest us

  pub AreWanted : {n : _} → Declared → ℕ → Env → Row_of-Exp n → List NormalType → Type 0
  AreWanted d most env alone ts = ts ≡ []
  AreWanted d most env (its e rest) ts = (t : NormalType) × (us : List NormalType) × (ts ≡ t ∷ us) × ByRule (has_rule e) (Passes d most env e t) (Finds d most env e t) × Accepts most e t × AreWanted d most env rest us

  pub HeldIsWanted : Declared → ℕ → Env → Held-Exp-Tagged-1 → Option NormalType → Type 0
  HeldIsWanted d most env None' arg = arg ≡ None
  HeldIsWanted d most env (Some' _ e) arg = (t : NormalType) × (arg ≡ Some t) × Wanted d most env e t

  -- the row of a record's fields
  pub FindFields : {n : _} → Declared → ℕ → Env → Row_of-FieldExp n → List Part → Type 0
  FindFields d most env end_of-FieldExp r = r ≡ []
  FindFields d most env (more_of-FieldExp l e rest) r = (t : NormalType) × (q : List Part) × (r ≡ with_part (field l t) q) × IsTrue (label_is_in (variables env) l)
      × Finds d most env e t × Accepts most e t × FindFields d most env rest q

  pub WantFields : {n : _} → Declared → ℕ → Env → Row_of-FieldExp n → List Part → Type 0
  WantFields d most env end_of-FieldExp r = r ≡ []
  WantFields d most env (more_of-FieldExp l e rest) r = (t : NormalType) × (q : List Part) × (r ≡ with_part (field l t) q) × IsTrue (label_is_in (variables env) l)
      × ByRule (has_rule e) (Passes d most env e t) (Finds d most env e t) × Accepts most e t × WantFields d most env rest q

  pub FindBranches : {n : _} → Declared → ℕ → Env → NormalType → Row_of-Branch n → List Pattern → NormalType → Type 0
  FindBranches d most env u end_of-Branch ps t = ⊥
  FindBranches d most env u (more_of-Branch p e rest) ps t = (bound : List NormalType) × (qs : List Pattern) × (ps ≡ p ∷ qs) × (bound_by d u p ≡ Some bound)
      × Finds d most (with_values bound env) e t × Accepts most e t × WantBranches d most env u rest qs t

  pub WantBranches : {n : _} → Declared → ℕ → Env → NormalType → Row_of-Branch n → List Pattern → NormalType → Type 0
  WantBranches d most env u end_of-Branch ps t = ps ≡ []
  WantBranches d most env u (more_of-Branch p e rest) ps t = (bound : List NormalType) × (qs : List Pattern) × (ps ≡ p ∷ qs) × (bound_by d u p ≡ Some bound)
      × ByRule (has_rule e) (Passes d most (with_values bound env) e t) (Finds d most (with_values bound env) e t) × Accepts most e t × WantBranches d most env u rest qs t

  -- parts that may stand at a place, in a form with the fields `own`, with the fields that they add
  pub Marks : {n : _} → Declared → ℕ → Env → Place → Row_of-Markup n → List Part → List Part → Type 0
  Marks d most env p end own r = r ≡ []
  Marks d most env p (more m rest) own r = (q : List Part) × (o : List Part) × (r ≡ joined q o) × Mark d most env p m own q × Marks d most env p rest own o

  pub Mark : Declared → ℕ → Env → Place → Markup → List Part → List Part → Type 0
  Mark d most env p (markup.Text s) own r = IsTrue (holds_text p) × (r ≡ [])
  Mark d most env p (markup.Shown e) own r = IsTrue (holds_text p) × ((t : NormalType) × Finds d most env e t × Accepts most e t × IsTrue (is_basic t)) × (r ≡ [])
  Mark d most env p (markup.Splice e) own r = SpliceAt p (wants_type e) (λ t. Finds d most env e t × Accepts most e t) (λ t. ByRule (has_rule e) (Passes d most env e t) (Finds d most env e t) × Accepts most e t) r
  Mark d most env p (markup.Element' g _ parts) own r = ElementAt env.known p g (λ q i o. Marks d most env q parts i o) r own
  -- a link has all arguments of a page function
  Mark d most env p (markup.Link' f _ args _ parts) own r = IsTrue (is_flow p) × ((ts : List NormalType) × Targets d f ts × IsTrue (are_linkable ts) × AreWanted d most env args ts) × Marks d most env p parts own r
  Mark d most env p (markup.Input' k l v) own r = IsTrue (holds_fields p) × IsTrue (label_is_in (variables env) l) × HasValue d most env (may_have_value k) v × (r ≡ field l (places.field_type k) ∷ [])
  -- an action has all arguments of a page function, each of which can stand in a path, but the last, which is the record of the form's fields
  Mark d most env p (markup.Submit' f _ args v) own r = (p ≡ in_form) × ((ts : List NormalType) × Targets d f (ts ++ record_of own ∷ []) × IsTrue (are_linkable ts) × AreWanted d most env args ts)
      × HasValue d most env true v × (r ≡ [])

  -- a value, which only some tags may have, is a string
  pub HasValue : Declared → ℕ → Env → Bool → Held-Exp-Tagged-1 → Type 0
  HasValue d most env may None' = Unit {0}
  HasValue d most env may (Some' _ e) = IsTrue may × Wanted d most env e ty.Str

-- Checks an expression against a wanted type. A form that has no rule of its own for checking is found and compared.
abbrev pub Checks : Declared → ℕ → Env → Exp → NormalType → Type 0
Checks d most env e t = ByRule (has_rule e) (Passes d most env e t) (Finds d most env e t)
