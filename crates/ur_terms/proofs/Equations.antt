-- What each form of term comes to, over plain lists.
use Rattle.std.proofs.Common.{◌≡◌, ℕ, List, ◌∷◌, ◌++◌, Option, Some, None, refl, ap, ◌∙◌}
use mathlib.Core.Former.{Count}
use denote.Hole.Carrier
use Rattle.ur_values.specs.declared.value.Value.{Value}
use Rattle.ur_terms.specs.declared.term.Op.{Op}
use Rattle.ur_terms.specs.declared.term.Branch.{Branch}
use Rattle.ur_terms.specs.declared.term.Term.TheBlock as block
use Rattle.ur_terms.specs.declared.term.Term.{Term, Row_of-Term, end_of-Term, more_of-Term, Row_of-Branch, end_of-Branch, more_of-Branch, items-the_row-Term, items_hidden-the_row-Term-0, items-the_row-Branch, items_hidden-the_row-Branch-2}
use Rattle.ur_terms.specs.declared.term.Term.TheVariants as t
use Rattle.ur_terms.specs.State.{State, Outcome, Done, Error, Spent, Stuck, after, charge}
use Rattle.ur_terms.specs.Values.{as_items}
use Rattle.ur_terms.specs.Ops.{given}
use Rattle.ur_terms.specs.Run.{Does, Calls, eval, eval_all, eval_branches, eval_list, first_branch, for_each, joined, choose, matched, on_match}

abbrev pub row_of : Term → (n : Count) × Row_of-Term n
row_of (t.Make' o _ row) = (_, row)
row_of (t.Call' f _ row) = (_, row)
row_of (t.Let' _ row _ body) = (_, row)
row_of _ = (_, end_of-Term)

abbrev pub branches_of : Term → (n : Count) × Row_of-Branch n
branches_of (t.Case' _ x _ row) = (_, row)
branches_of _ = (_, end_of-Branch)

pub after_same : {A B : Type 0} (o : Outcome A) (go come : A → State → Outcome B) → ((x : A) (s : State) → go x s ≡ come x s) → after o go ≡ after o come
after_same (Done x s) go come h = h x s
after_same (Error body events) go come h = refl
after_same (Spent events) go come h = refl
after_same Stuck go come h = refl

pub after_after : {A B C : Type 0} (o : Outcome A) (f : A → State → Outcome B) (g : B → State → Outcome C)
    → after (after o f) g ≡ after o (λ x s. after (f x s) g)
after_after (Done x s) f g = refl
after_after (Error body events) f g = refl
after_after (Spent events) f g = refl
after_after Stuck f g = refl

pub given_same : {A B : Type 0} (o : Option A) (go come : A → Outcome B) → ((x : A) → go x ≡ come x) → given o go ≡ given o come
given_same None go come h = refl
given_same (Some x) go come h = h x

pub match_same : {A : Type 0} (m : Option (List Value)) (go : List Value → A) (a b : A) → a ≡ b → on_match m go a ≡ on_match m go b
match_same None go a b e = e
match_same (Some xs) go a b e = refl

module _ (d : Does) (c : Calls) where
  pub all_items : (m : Count) (row : Row_of-Term m) (env : List Value) (s : State)
      → eval_all d c row env s ≡ eval_list d c (items-the_row-Term m row) env s
  all_items m end_of-Term env s = refl
  all_items m (more_of-Term a rest) env s =
      after_same (eval d c a env s) _ _ (λ y u. ap (λ o. after o (λ ys w. Done (y ∷ ys) w)) (all_items _ rest env u))

  pub branch_items : (m : Count) (row : Row_of-Branch m) (x : Value) (env : List Value) (s : State)
      → eval_branches d c row x env s ≡ first_branch d c (items-the_row-Branch m row) x env s
  branch_items m end_of-Branch x env s = refl
  branch_items m (more_of-Branch pattern body rest) x env s =
      match_same (matched pattern x) _ _ _ (branch_items _ rest x env s)

  pub eval-Make : (o : Op) (args : List Term) (env : List Value) (s : State)
      → eval d c (t.Make o args) env s ≡ after (eval_list d c args env s) (d o)
  eval-Make o args env s =
      let row = row_of (t.Make o args) in
      ap (λ p. after p (d o)) (all_items row.0 row.1 env s ∙ ap (λ xs. eval_list d c xs env s) (items_hidden-the_row-Term-0 args))

  pub eval-Call : (f : ℕ) (args : List Term) (env : List Value) (s : State)
      → eval d c (t.Call f args) env s ≡ after (eval_list d c args env s) (λ xs u. charge 1 u (c f xs))
  eval-Call f args env s =
      let row = row_of (t.Call f args) in
      ap (λ p. after p (λ xs u. charge 1 u (c f xs))) (all_items row.0 row.1 env s ∙ ap (λ xs. eval_list d c xs env s) (items_hidden-the_row-Term-0 args))

  pub eval-Let : (args : List Term) (body : Term) (env : List Value) (s : State)
      → eval d c (t.Let args body) env s ≡ after (eval_list d c args env s) (λ xs u. eval d c body (xs ++ env) u)
  unfolding block.hidden-the_row-Term-1 Carrier.hidden
  eval-Let args body env s =
      let row = row_of (t.Let args body) in
      ap (λ p. after p (λ xs u. eval d c body (xs ++ env) u)) (all_items row.0 row.1 env s ∙ ap (λ xs. eval_list d c xs env s) (items_hidden-the_row-Term-0 args))

  pub eval-If : (x a b : Term) (env : List Value) (s : State)
      → eval d c (t.If x a b) env s ≡ after (eval d c x env s) (λ y u. choose y (eval d c a env u) (eval d c b env u))
  unfolding block.hidden-the_row-Term-1 Carrier.hidden
  eval-If x a b env s = refl

  pub eval-Case : (x : Term) (bs : List Branch) (env : List Value) (s : State)
      → eval d c (t.Case x bs) env s ≡ after (eval d c x env s) (λ y u. first_branch d c bs y env u)
  unfolding block.hidden-the_row-Term-1 Carrier.hidden
  eval-Case x bs env s =
      let row = branches_of (t.Case x bs) in
      after_same (eval d c x env s) _ _ (λ y u. branch_items row.0 row.1 y env u ∙ ap (λ ys. first_branch d c ys y env u) (items_hidden-the_row-Branch-2 bs))

  pub eval-Each : (x body : Term) (env : List Value) (s : State)
      → eval d c (t.Each x body) env s ≡ after (eval d c x env s) (λ y u. given (as_items y) (λ items.
      after (for_each (λ item. eval d c body (item ∷ env)) items u) joined))
  unfolding block.hidden-the_row-Term-1 Carrier.hidden
  eval-Each x body env s = refl
