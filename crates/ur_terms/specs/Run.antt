-- What a first-order term comes to.
use Rattle.std.specs.Prelude.{ℕ, zero, suc, Bool, true, false, if◌then◌else◌, List, [], ◌∷◌, ◌++◌, Option, Some, None, slice_get, ◌==◌}
use Rattle.std.specs.Str.{bytes_eq}
use Rattle.std.specs.Ordering.{int_eq, bool_cmp, is_eq}
use Rattle.ur_values.specs.declared.value.Value.{Value, out-Value}
use Rattle.ur_values.specs.declared.value.Node.TheOpen as o
use Rattle.ur_values.specs.declared.value.Value.TheVariants as v
use Rattle.ur_terms.specs.declared.term.Op.{Op}
use Rattle.ur_terms.specs.declared.term.Pattern.{Pattern}
use Rattle.ur_terms.specs.declared.term.Pattern.TheVariants as p
use Rattle.ur_terms.specs.declared.term.Term.{Term, Row_of-Term, end_of-Term, more_of-Term, Row_of-Branch, end_of-Branch, more_of-Branch}
use Rattle.ur_terms.specs.declared.term.Branch.{Branch}
use Rattle.ur_terms.specs.declared.term.Term.TheVariants as t
use Rattle.ur_terms.specs.declared.term.Function.{Function}
use Rattle.ur_terms.specs.State.{State, Outcome, Done, Spent, Stuck, after, charge, LeavesAtMost}
use Rattle.ur_terms.specs.Values.{Open, as_bool, as_items, all_nodes}
use Rattle.ur_terms.specs.Ops.{given, markup}

-- ---- patterns

abbrev pub if_matches : Bool → List Value → Option (List Value)
if_matches true bound = Some bound
if_matches false bound = None

-- the first item and the list of the others
abbrev pub first_and_rest : List Value → Option (List Value)
first_and_rest [] = None
first_and_rest (x ∷ xs) = Some (x ∷ v.Many xs ∷ [])

abbrev pub held_by : Option Value → List Value
held_by None = []
held_by (Some x) = x ∷ []

abbrev pub if_empty : List Value → Option (List Value)
if_empty [] = Some []
if_empty (x ∷ xs) = None

-- what a pattern binds, where it matches a value that is open one level deep
abbrev pub matched_open : Pattern → Open → Option (List Value)
matched_open (p.Int i) (o.Int j) = if_matches (int_eq i j) []
matched_open (p.Str s) (o.Str t) = if_matches (bytes_eq s t) []
matched_open (p.Bool a) (o.Bool b) = if_matches (is_eq (bool_cmp a b)) []
matched_open p.Absent o.Absent = Some []
matched_open p.Present (o.Present x) = Some (x ∷ [])
matched_open p.Empty (o.Many xs) = if_empty xs
matched_open p.Cons (o.Many xs) = first_and_rest xs
matched_open (p.Tagged c) (o.Tagged d x) = if_matches (c == d) (held_by x)
matched_open _ _ = None

-- the values that a pattern binds, where it matches
abbrev pub matched : Pattern → Value → Option (List Value)
matched p.Any x = Some (x ∷ [])
matched p x = matched_open p (out-Value x)

-- ---- terms

abbrev pub on_match : {A : Type 0} → Option (List Value) → (List Value → A) → A → A
on_match None go other = other
on_match (Some bound) go other = go bound

-- what operations do
abbrev pub Does : Type 0
Does = Op → List Value → State → Outcome Value

-- what calls of functions come to
abbrev pub Calls : Type 0
Calls = ℕ → List Value → State → Outcome Value

-- a run of one expression for each item, from left to right
abbrev pub for_each : (Value → State → Outcome Value) → List Value → State → Outcome (List Value)
for_each go [] s = Done [] s
for_each go (x ∷ xs) s = after (go x s) (λ y t. after (for_each go xs t) (λ ys u. Done (y ∷ ys) u))

-- the XML of all of them
abbrev pub joined : List Value → State → Outcome Value
joined xs s = given (all_nodes xs) (λ nodes. markup nodes s)

abbrev pub choose : Value → Outcome Value → Outcome Value → Outcome Value
choose x a b = given (as_bool x) (λ c. if c then a else b)

-- The value of a term, its arguments being evaluated from left to right, and one unit charged before each call.
abbrev mutual
  pub eval : Does → Calls → Term → List Value → State → Outcome Value
  eval d call (t.Variable i) env s = given (slice_get env i) (λ x. Done x s)
  eval d call (t.Int i) env s = Done (v.Int i) s
  eval d call (t.Str text) env s = Done (v.Str text) s
  eval d call (t.Bool b) env s = Done (v.Bool b) s
  eval d call (t.Make' op _ args) env s = after (eval_all d call args env s) (d op)
  eval d call (t.Call' f _ args) env s = after (eval_all d call args env s) (λ xs u. charge 1 u (call f xs))
  eval d call (t.Let' _ args _ body) env s = after (eval_all d call args env s) (λ xs u. eval_one d call body (xs ++ env) u)
  eval d call (t.If' _ c _ a _ b) env s =
      after (eval_one d call c env s) (λ x u. choose x (eval_one d call a env u) (eval_one d call b env u))
  eval d call (t.Case' _ x _ branches) env s = after (eval_one d call x env s) (λ y u. eval_branches d call branches y env u)
  eval d call (t.Each' _ rows _ body) env s =
      after (eval_one d call rows env s) (λ x u. given (as_items x) (λ items.
      after (for_each (λ item. eval_one d call body (item ∷ env)) items u) joined))

  -- the one child
  pub eval_one : Does → Calls → {m : _} → Row_of-Term m → List Value → State → Outcome Value
  eval_one d call end_of-Term env s = Stuck
  eval_one d call (more_of-Term x rest) env s = eval d call x env s

  -- all of them, from left to right
  pub eval_all : Does → Calls → {m : _} → Row_of-Term m → List Value → State → Outcome (List Value)
  eval_all d call end_of-Term env s = Done [] s
  eval_all d call (more_of-Term x rest) env s =
      after (eval d call x env s) (λ y u. after (eval_all d call rest env u) (λ ys w. Done (y ∷ ys) w))

  -- the first branch that matches
  pub eval_branches : Does → Calls → {m : _} → Row_of-Branch m → Value → List Value → State → Outcome Value
  eval_branches d call end_of-Branch x env s = Stuck
  eval_branches d call (more_of-Branch pattern body rest) x env s =
      on_match (matched pattern x) (λ bound. eval d call body (bound ++ env) s) (eval_branches d call rest x env s)

-- The same over plain lists of terms and of branches.
abbrev pub eval_list : Does → Calls → List Term → List Value → State → Outcome (List Value)
eval_list d calls [] env s = Done [] s
eval_list d calls (a ∷ more) env s = after (eval d calls a env s) (λ y t. after (eval_list d calls more env t) (λ ys u. Done (y ∷ ys) u))

abbrev pub first_branch : Does → Calls → List Branch → Value → List Value → State → Outcome Value
first_branch d calls [] x env s = Stuck
first_branch d calls (b ∷ bs) x env s =
    on_match (matched b.pattern x) (λ bound. eval d calls b.body (bound ++ env) s) (first_branch d calls bs x env s)

-- ---- functions

-- A call of a function, in which at most n calls stand one within the other. Each of them is charged a unit, so that
-- one more than the units left are enough.
abbrev pub run : Does → List Function → ℕ → Calls
run d functions zero f args s = Spent s.events
run d functions (suc n) f args s =
    given (slice_get functions f) (λ function. eval d (run d functions n) function.body args s)

-- what a call comes to
abbrev pub outcome_of : Does → List Function → ℕ → List Value → State → Outcome Value
outcome_of d functions f args s = run d functions (suc s.units) f args s

-- operations by which units do not rise
abbrev pub NeverRaises : Does → Type 0
NeverRaises d = (o : Op) (xs : List Value) (s : State) → LeavesAtMost s.units (d o xs s)
