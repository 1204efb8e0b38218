-- What a term comes to, and what it costs, where variables differ that it does not read.
use Rattle.std.proofs.Common.{◌≡◌, ℕ, suc, ◌+◌, if◌then◌else◌, List, [], ◌∷◌, ◌++◌, length, Option, Some, None, refl, sym, ap, subst, ◌∙◌}
use Rattle.ur_values.specs.declared.value.Value.{Value}
use Rattle.ur_terms.specs.declared.term.Term.{Term, Row_of-Term, end_of-Term, more_of-Term, Row_of-Branch, end_of-Branch, more_of-Branch}
use Rattle.ur_terms.specs.declared.term.Term.TheVariants as t
use Rattle.ur_terms.specs.State.{State, Outcome, Done, Error, Spent, Stuck, after, charge}
use Rattle.ur_terms.specs.Values.{as_bool, as_items}
use Rattle.ur_terms.specs.Ops.{given}
use Rattle.ur_terms.specs.Run.{Does, Calls, eval, eval_one, eval_all, eval_branches, for_each, joined, choose, matched, on_match}
use Rattle.ur_terms.specs.Cost.{CallsCost, after_cost, given_cost, match_cost, choice_cost, charge_cost, each_cost, cost, cost_one, cost_all, cost_branches}
use Rattle.ur_terms.proofs.Equations.{after_same, given_same}
use Rattle.ur_terms.proofs.Cost.{after_cost_same, given_cost_same}
use Rattle.ur_machine_frames.specs.Unread.{under, count_of, Unread, AllUnread, BranchesUnread, SameBut, further}
use Rattle.ur_machine_frames.proofs.Bound.{other_same, bound_same, pattern_bound}

-- ---- outcomes that go on

-- so many values
abbrev pub IsLong : ℕ → Outcome (List Value) → Type 0
IsLong n (Done xs s) = length xs ≡ n
IsLong n (Error body events) = Unit {0}
IsLong n (Spent events) = Unit {0}
IsLong n Stuck = Unit {0}

pub after_long : (n : ℕ) (o : Outcome (List Value)) (go come : List Value → State → Outcome Value) → IsLong n o
    → ((xs : List Value) → length xs ≡ n → (s : State) → go xs s ≡ come xs s) → after o go ≡ after o come
after_long n (Done xs s) go come e h = h xs e s
after_long n (Error body events) go come e h = refl
after_long n (Spent events) go come e h = refl
after_long n Stuck go come e h = refl

pub after_cost_long : (n : ℕ) (o : Outcome (List Value)) (f g : List Value → State → ℕ) → IsLong n o
    → ((xs : List Value) → length xs ≡ n → (s : State) → f xs s ≡ g xs s) → after_cost o f ≡ after_cost o g
after_cost_long n (Done xs s) f g e h = h xs e s
after_cost_long n (Error body events) f g e h = refl
after_cost_long n (Spent events) f g e h = refl
after_cost_long n Stuck f g e h = refl

pub long_after : {A : Type 0} (n : ℕ) (o : Outcome A) (go : A → State → Outcome (List Value)) → ((x : A) (s : State) → IsLong n (go x s)) → IsLong n (after o go)
long_after n (Done x s) go h = h x s
long_after n (Error body events) go h = tt
long_after n (Spent events) go h = tt
long_after n Stuck go h = tt

pub one_longer : (n : ℕ) (y : Value) (o : Outcome (List Value)) → IsLong n o → IsLong (suc n) (after o (λ ys w. Done (y ∷ ys) w))
one_longer n y (Done xs s) e = ap suc e
one_longer n y (Error body events) e = tt
one_longer n y (Spent events) e = tt
one_longer n y Stuck e = tt

pub match_alike : {A : Type 0} (m : Option (List Value)) (go come : List Value → A) (a b : A) → ((xs : List Value) → m ≡ Some xs → go xs ≡ come xs) → a ≡ b → on_match m go a ≡ on_match m come b
match_alike None go come a b h e = e
match_alike (Some xs) go come a b h e = h xs refl

pub match_cost_alike : (m : Option (List Value)) (f g : List Value → ℕ) (a b : ℕ) → ((xs : List Value) → m ≡ Some xs → f xs ≡ g xs) → a ≡ b → match_cost m f a ≡ match_cost m g b
match_cost_alike None f g a b h e = e
match_cost_alike (Some xs) f g a b h e = ap (λ n. suc (suc n)) (h xs refl)

pub each_alike : (go come : Value → State → Outcome Value) → ((x : Value) (s : State) → go x s ≡ come x s) → (xs : List Value) (s : State) → for_each go xs s ≡ for_each come xs s
each_alike go come h [] s = refl
each_alike go come h (x ∷ xs) s =
    ap (λ o. after o (λ y t. after (for_each go xs t) (λ ys u. Done (y ∷ ys) u))) (h x s)
    ∙ after_same (come x s) _ _ (λ y t. ap (λ o. after o (λ ys u. Done (y ∷ ys) u)) (each_alike go come h xs t))

pub each_cost_alike : (go come : Value → State → Outcome Value) (f g : Value → State → ℕ) → ((x : Value) (s : State) → go x s ≡ come x s) → ((x : Value) (s : State) → f x s ≡ g x s)
    → (xs : List Value) (s : State) → each_cost go f xs s ≡ each_cost come g xs s
each_cost_alike go come f g h k [] s = refl
each_cost_alike go come f g h k (x ∷ xs) s =
    ap (λ n. suc (n + after_cost (go x s) (λ y t. suc (each_cost go f xs t)))) (k x s)
    ∙ ap (λ n. suc (g x s + n)) (ap (λ o. after_cost o (λ y t. suc (each_cost go f xs t))) (h x s)
    ∙ after_cost_same (come x s) _ _ (λ y t. ap suc (each_cost_alike go come f g h k xs t)))

-- ---- terms

module _ (d : Does) (c : Calls) where
  all_long : {m : _} (args : Row_of-Term m) (env : List Value) (s : State) → IsLong (count_of args) (eval_all d c args env s)
  all_long end_of-Term env s = refl
  all_long (more_of-Term x rest) env s = long_after (suc (count_of rest)) (eval d c x env s) (λ y u. after (eval_all d c rest env u) (λ ys w. Done (y ∷ ys) w))
      (λ y u. one_longer (count_of rest) y (eval_all d c rest env u) (all_long rest env u))

  mutual
    pub eval_alike : (a : Term) (i : ℕ) (env env' : List Value) (s : State) → Unread i a → SameBut i env env' → eval d c a env s ≡ eval d c a env' s
    eval_alike (t.Variable j) i env env' s u h = ap (λ o. given o (λ x. Done x s)) (other_same i j env env' u h)
    eval_alike (t.Int n) i env env' s u h = refl
    eval_alike (t.Str text) i env env' s u h = refl
    eval_alike (t.Bool b) i env env' s u h = refl
    eval_alike (t.Make' op _ args) i env env' s u h = ap (λ o. after o (d op)) (all_alike args i env env' s u h)
    eval_alike (t.Call' f _ args) i env env' s u h = ap (λ o. after o (λ xs w. charge 1 w (c f xs))) (all_alike args i env env' s u h)
    eval_alike (t.Let' _ args _ body) i env env' s u h =
        ap (λ o. after o (λ xs w. eval_one d c body (xs ++ env) w)) (all_alike args i env env' s u.0 h)
        ∙ after_long (count_of args) (eval_all d c args env' s) _ _ (all_long args env' s) (λ xs e w.
        one_alike body (under (count_of args) i) (xs ++ env) (xs ++ env') w u.1 (subst (λ n. SameBut (under n i) (xs ++ env) (xs ++ env')) e (bound_same xs i env env' h)))
    eval_alike (t.If' _ q _ a _ b) i env env' s u h =
        ap (λ o. after o (λ y w. choose y (eval_one d c a env w) (eval_one d c b env w))) (one_alike q i env env' s u.0 h)
        ∙ after_same (eval_one d c q env' s) _ _ (λ y w.
        ap (λ o. choose y o (eval_one d c b env w)) (one_alike a i env env' w u.1 h) ∙ ap (λ o. choose y (eval_one d c a env' w) o) (one_alike b i env env' w u.2 h))
    eval_alike (t.Case' _ x _ bs) i env env' s u h =
        ap (λ o. after o (λ y w. eval_branches d c bs y env w)) (one_alike x i env env' s u.0 h)
        ∙ after_same (eval_one d c x env' s) _ _ (λ y w. branches_alike bs y i env env' w u.1 h)
    eval_alike (t.Each' _ rows _ body) i env env' s u h =
        ap (λ o. after o (λ x w. given (as_items x) (λ items. after (for_each (λ item. eval_one d c body (item ∷ env)) items w) joined))) (one_alike rows i env env' s u.0 h)
        ∙ after_same (eval_one d c rows env' s) _ _ (λ x w. given_same (as_items x) _ _ (λ items. ap (λ o. after o joined)
        (each_alike _ _ (λ item v. one_alike body (suc i) (item ∷ env) (item ∷ env') v u.1 (further i item env env' h)) items w)))

    pub one_alike : {m : _} (a : Row_of-Term m) (i : ℕ) (env env' : List Value) (s : State) → AllUnread i a → SameBut i env env' → eval_one d c a env s ≡ eval_one d c a env' s
    one_alike end_of-Term i env env' s u h = refl
    one_alike (more_of-Term x rest) i env env' s u h = eval_alike x i env env' s u.0 h

    pub all_alike : {m : _} (a : Row_of-Term m) (i : ℕ) (env env' : List Value) (s : State) → AllUnread i a → SameBut i env env' → eval_all d c a env s ≡ eval_all d c a env' s
    all_alike end_of-Term i env env' s u h = refl
    all_alike (more_of-Term x rest) i env env' s u h =
        ap (λ o. after o (λ y w. after (eval_all d c rest env w) (λ ys v. Done (y ∷ ys) v))) (eval_alike x i env env' s u.0 h)
        ∙ after_same (eval d c x env' s) _ _ (λ y w. ap (λ o. after o (λ ys v. Done (y ∷ ys) v)) (all_alike rest i env env' w u.1 h))

    pub branches_alike : {m : _} (bs : Row_of-Branch m) (x : Value) (i : ℕ) (env env' : List Value) (s : State) → BranchesUnread i bs → SameBut i env env'
        → eval_branches d c bs x env s ≡ eval_branches d c bs x env' s
    branches_alike end_of-Branch x i env env' s u h = refl
    branches_alike (more_of-Branch pattern body rest) x i env env' s u h =
        match_alike (matched pattern x) _ _ _ _
        (λ bound e. eval_alike body (under (length bound) i) (bound ++ env) (bound ++ env') s
        (pattern_bound (λ n. Unread (under n i) body) pattern x bound e u.0) (bound_same bound i env env' h))
        (branches_alike rest x i env env' s u.1 h)

  module _ (k : CallsCost) where
    mutual
      pub cost_alike : (a : Term) (i : ℕ) (env env' : List Value) (s : State) → Unread i a → SameBut i env env' → cost d c k a env s ≡ cost d c k a env' s
      cost_alike (t.Variable j) i env env' s u h = refl
      cost_alike (t.Int n) i env env' s u h = refl
      cost_alike (t.Str text) i env env' s u h = refl
      cost_alike (t.Bool b) i env env' s u h = refl
      cost_alike (t.Make' op _ args) i env env' s u h = ap suc (costs_alike args i env env' s u h)
      cost_alike (t.Call' f _ args) i env env' s u h =
          ap (λ n. suc (n + after_cost (eval_all d c args env s) (λ xs w. charge_cost w (k f xs)))) (costs_alike args i env env' s u h)
          ∙ ap (λ o. suc (cost_all d c k args env' s + after_cost o (λ xs w. charge_cost w (k f xs)))) (all_alike args i env env' s u h)
      cost_alike (t.Let' _ args _ body) i env env' s u h =
          ap (λ n. suc (n + after_cost (eval_all d c args env s) (λ xs w. suc (cost_one d c k body (xs ++ env) w)))) (costs_alike args i env env' s u.0 h)
          ∙ ap (λ n. suc (cost_all d c k args env' s + n))
          (ap (λ o. after_cost o (λ xs w. suc (cost_one d c k body (xs ++ env) w))) (all_alike args i env env' s u.0 h)
          ∙ after_cost_long (count_of args) (eval_all d c args env' s) _ _ (all_long args env' s) (λ xs e w. ap suc
          (one_cost_alike body (under (count_of args) i) (xs ++ env) (xs ++ env') w u.1 (subst (λ n. SameBut (under n i) (xs ++ env) (xs ++ env')) e (bound_same xs i env env' h)))))
      cost_alike (t.If' _ q _ a _ b) i env env' s u h =
          ap (λ n. suc (n + after_cost (eval_one d c q env s) (λ y w. suc (choice_cost y (cost_one d c k a env w) (cost_one d c k b env w))))) (one_cost_alike q i env env' s u.0 h)
          ∙ ap (λ n. suc (cost_one d c k q env' s + n))
          (ap (λ o. after_cost o (λ y w. suc (choice_cost y (cost_one d c k a env w) (cost_one d c k b env w)))) (one_alike q i env env' s u.0 h)
          ∙ after_cost_same (eval_one d c q env' s) _ _ (λ y w.
          ap (λ n. suc (choice_cost y n (cost_one d c k b env w))) (one_cost_alike a i env env' w u.1 h) ∙ ap (λ n. suc (choice_cost y (cost_one d c k a env' w) n)) (one_cost_alike b i env env' w u.2 h)))
      cost_alike (t.Case' _ x _ bs) i env env' s u h =
          ap (λ n. suc (n + after_cost (eval_one d c x env s) (λ y w. suc (cost_branches d c k bs y env w)))) (one_cost_alike x i env env' s u.0 h)
          ∙ ap (λ n. suc (cost_one d c k x env' s + n))
          (ap (λ o. after_cost o (λ y w. suc (cost_branches d c k bs y env w))) (one_alike x i env env' s u.0 h)
          ∙ after_cost_same (eval_one d c x env' s) _ _ (λ y w. ap suc (branches_cost_alike bs y i env env' w u.1 h)))
      cost_alike (t.Each' _ rows _ body) i env env' s u h =
          ap (λ n. suc (n + after_cost (eval_one d c rows env s) (λ x w. suc (given_cost (as_items x) (λ items.
          each_cost (λ item. eval_one d c body (item ∷ env)) (λ item. cost_one d c k body (item ∷ env)) items w))))) (one_cost_alike rows i env env' s u.0 h)
          ∙ ap (λ n. suc (cost_one d c k rows env' s + n))
          (ap (λ o. after_cost o (λ x w. suc (given_cost (as_items x) (λ items.
          each_cost (λ item. eval_one d c body (item ∷ env)) (λ item. cost_one d c k body (item ∷ env)) items w)))) (one_alike rows i env env' s u.0 h)
          ∙ after_cost_same (eval_one d c rows env' s) _ _ (λ x w. ap suc (given_cost_same (as_items x) _ _ (λ items.
          each_cost_alike _ _ _ _
          (λ item v. one_alike body (suc i) (item ∷ env) (item ∷ env') v u.1 (further i item env env' h))
          (λ item v. one_cost_alike body (suc i) (item ∷ env) (item ∷ env') v u.1 (further i item env env' h)) items w))))

      pub one_cost_alike : {m : _} (a : Row_of-Term m) (i : ℕ) (env env' : List Value) (s : State) → AllUnread i a → SameBut i env env' → cost_one d c k a env s ≡ cost_one d c k a env' s
      one_cost_alike end_of-Term i env env' s u h = refl
      one_cost_alike (more_of-Term x rest) i env env' s u h = cost_alike x i env env' s u.0 h

      pub costs_alike : {m : _} (a : Row_of-Term m) (i : ℕ) (env env' : List Value) (s : State) → AllUnread i a → SameBut i env env' → cost_all d c k a env s ≡ cost_all d c k a env' s
      costs_alike end_of-Term i env env' s u h = refl
      costs_alike (more_of-Term x rest) i env env' s u h =
          ap (λ n. n + after_cost (eval d c x env s) (λ y w. suc (cost_all d c k rest env w))) (cost_alike x i env env' s u.0 h)
          ∙ ap (λ n. cost d c k x env' s + n)
          (ap (λ o. after_cost o (λ y w. suc (cost_all d c k rest env w))) (eval_alike x i env env' s u.0 h)
          ∙ after_cost_same (eval d c x env' s) _ _ (λ y w. ap suc (costs_alike rest i env env' w u.1 h)))

      pub branches_cost_alike : {m : _} (bs : Row_of-Branch m) (x : Value) (i : ℕ) (env env' : List Value) (s : State) → BranchesUnread i bs → SameBut i env env'
          → cost_branches d c k bs x env s ≡ cost_branches d c k bs x env' s
      branches_cost_alike end_of-Branch x i env env' s u h = refl
      branches_cost_alike (more_of-Branch pattern body rest) x i env env' s u h =
          match_cost_alike (matched pattern x) _ _ _ _
          (λ bound e. cost_alike body (under (length bound) i) (bound ++ env) (bound ++ env') s
          (pattern_bound (λ n. Unread (under n i) body) pattern x bound e u.0) (bound_same bound i env env' h))
          (branches_cost_alike rest x i env env' s u.1 h)
