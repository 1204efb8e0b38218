-- A run of a term that has a type is not stuck, and gives a value of the type.
use Rattle.std.proofs.Common.{◌≡◌, ◌≢◌, ◌⊎◌, inl, inr, ℕ, zero, suc, List, [], ◌∷◌, ◌++◌, Option, Some, None, Bool, true, false, if◌then◌else◌, refl, sym, subst, arith}
use Rattle.std.specs.Prelude.{◌≤◌, ◌-◌, nat_le, map, slice_get}
use Rattle.std.specs.List.{Contains, AllZip, AllByRecursion}
use Rattle.std.proofs.lemmas.Bool.Decides.{nat_tests}
use Rattle.ur_values.specs.declared.types.ValueType.{ValueType}
use Rattle.ur_values.specs.declared.types.ValueType.TheVariants as ty
use Rattle.ur_values.specs.declared.value.Value.{Value}
use Rattle.ur_values.specs.declared.value.Value.TheVariants as v
use Rattle.ur_terms.specs.declared.term.Function.{Function}
use Rattle.ur_terms.specs.declared.term.Pattern.{Pattern}
use Rattle.ur_terms.specs.declared.term.Term.{Term, Row_of-Term, end_of-Term, more_of-Term, Row_of-Branch, end_of-Branch, more_of-Branch}
use Rattle.ur_terms.specs.declared.term.Term.TheVariants as t
use Rattle.ur_terms.specs.State.{State, Outcome, Done, Error, Spent, Stuck, after, charge}
use Rattle.ur_terms.specs.Values.{as_bool, as_items}
use Rattle.ur_terms.specs.Ops.{given}
use Rattle.ur_terms.specs.Run.{Does, Calls, eval, eval_one, eval_all, eval_branches, for_each, joined, choose, matched, on_match, run, outcome_of}
use Rattle.ur_terms.specs.Types.{Signature, patterns_of, HasType, OneHasType, HaveTypes, BranchesHave, FitsFunction, function_type}
use Rattle.ur_terms.specs.Sound.{Comes, Met, Typing, KeepCalls}

pub comes_after : {A B : Type 0} (P : A → Type 0) (Q : B → Type 0) (S : State → Type 0) (E : Value → Type 0) (o : Outcome A) (go : A → State → Outcome B)
    → Comes P S E o → ((x : A) (s : State) → P x → S s → Comes Q S E (go x s)) → Comes Q S E (after o go)
comes_after P Q S E (Done x s) go h k = k x s h.0 h.1
comes_after P Q S E (Error body events) go h k = h
comes_after P Q S E (Spent events) go h k = tt
comes_after P Q S E Stuck go h k = absurd h

-- what is there is gone on with
pub comes_given : {A B : Type 0} (Q : B → Type 0) (S : State → Type 0) (E : Value → Type 0) (o : Option A) (x : A) (go : A → Outcome B)
    → o ≡ Some x → Comes Q S E (go x) → Comes Q S E (given o go)
comes_given Q S E o x go e h = subst (λ o. Comes Q S E (given o go)) (sym e) h

-- the value at a place has the type at the place
pub at_place : (V : Value → ValueType → Type 0) (xs : List Value) (ts : List ValueType) (i : ℕ) (r : ValueType) → AllZip V xs ts → slice_get ts i ≡ Some r
    → (x : Value) × (slice_get xs i ≡ Some x) × V x r
at_place V [] [] i r h e = absurd (none_some e)
  where
    none_some : {A : Type 0} {x : A} → None ≡ Some x → ⊥
    none_some e = cc
at_place V (x ∷ xs) (t ∷ ts) zero r h e = (x, refl, subst (V x) (some_same e) h.0)
  where
    some_same : {A : Type 0} {x y : A} → Some x ≡ Some y → x ≡ y
    some_same e = cc
at_place V (x ∷ xs) (t ∷ ts) (suc i) r h e = at_place V xs ts i r h.1 e
at_place V [] (t ∷ ts) i r h e = absurd h
at_place V (x ∷ xs) [] i r h e = absurd h

pub both_of : (V : Value → ValueType → Type 0) (xs : List Value) (ts : List ValueType) (ys : List Value) (us : List ValueType)
    → AllZip V xs ts → AllZip V ys us → AllZip V (xs ++ ys) (ts ++ us)
both_of V [] [] ys us h k = k
both_of V (x ∷ xs) (t ∷ ts) ys us h k = (h.0, both_of V xs ts ys us h.1 k)
both_of V [] (t ∷ ts) ys us h k = absurd h
both_of V (x ∷ xs) [] ys us h k = absurd h

-- a branch's pattern matches
abbrev pub SomeMatch : Value → {m : _} → Row_of-Branch m → Type 0
SomeMatch x end_of-Branch = ⊥
SomeMatch x (more_of-Branch pattern body rest) = (matched pattern x ≢ None) ⊎ SomeMatch x rest

pub some_match : (x : Value) (p : Pattern) {m : _} (row : Row_of-Branch m) → Contains (patterns_of row) p → matched p x ≢ None → SomeMatch x row
some_match x p end_of-Branch (k, lt, e) n = absurd (omega (arith, lt))
some_match x p (more_of-Branch pattern body rest) (zero, lt, e) n = inl (subst (λ q. matched q x ≢ None) (sym e) n)
some_match x p (more_of-Branch pattern body rest) (suc k, lt, e) n = inr (some_match x p rest (k, omega (arith, lt), e) n)

-- a branch is taken where its pattern matches, else one of those behind it
pub tried : (V : Value → ValueType → Type 0) (S : State → Type 0) (B : Value → Type 0) (bound : List ValueType) (r : ValueType) (m : Option (List Value))
    (go : List Value → Outcome Value) (other : Outcome Value) (Later : Type 0) → (m ≢ None) ⊎ Later → Met V m bound
    → ((xs : List Value) → AllZip V xs bound → Comes (λ y. V y r) S B (go xs)) → (Later → Comes (λ y. V y r) S B other)
    → Comes (λ y. V y r) S B (on_match m go other)
tried V S B bound r None go other Later (inl n) met first rest = absurd (n refl)
tried V S B bound r None go other Later (inr k) met first rest = rest k
tried V S B bound r (Some xs) go other Later one met first rest = first xs met

module _ (sig : Signature) (V : Value → ValueType → Type 0) (S : State → Type 0) (B : Value → Type 0) (d : Does) (c : Calls) (facts : Typing sig V S B d) (calls : KeepCalls sig V S B c) where
  pub typed_each : (r : ValueType) (go : Value → State → Outcome Value) (P : Value → Type 0)
      → ((x : Value) (s : State) → P x → S s → Comes (λ y. V y r) S B (go x s))
      → (xs : List Value) (s : State) → AllByRecursion P xs → S s → Comes (AllByRecursion (λ y. V y r)) S B (for_each go xs s)
  typed_each r go P h [] s e f = (tt, f)
  typed_each r go P h (x ∷ xs) s e f =
      comes_after (λ y. V y r) (AllByRecursion (λ y. V y r)) S B (go x s) _ (h x s e.0 f) (λ y t vy ft.
      comes_after (AllByRecursion (λ y. V y r)) (AllByRecursion (λ y. V y r)) S B (for_each go xs t) _ (typed_each r go P h xs t e.1 ft) (λ ys u vs fu. ((vy, vs), fu)))

  pub typed_choice : (r : ValueType) (x : Value) (a b : Outcome Value) → V x ty.Bool → Comes (λ y. V y r) S B a → Comes (λ y. V y r) S B b
      → Comes (λ y. V y r) S B (choose x a b)
  typed_choice r x a b vx ha hb =
      let yes = facts.as_bool x vx in
      comes_given (λ y. V y r) S B (as_bool x) yes.0 (λ z. if z then a else b) yes.1 (either yes.0)
    where
      either : (z : Bool) → Comes (λ y. V y r) S B (if z then a else b)
      either true = ha
      either false = hb

  mutual
    pub typed_eval : (a : Term) (env : List Value) (types : List ValueType) (r : ValueType) (s : State) → HasType sig types a r → AllZip V env types → S s
        → Comes (λ x. V x r) S B (eval d c a env s)
    typed_eval (t.Variable i) env types r s h e f =
        let at = at_place V env types i r e h in
        comes_given (λ x. V x r) S B (slice_get env i) at.0 (λ x. Done x s) at.1 (at.2, f)
    typed_eval (t.Int i) env types r s h e f = (subst (V (v.Int i)) (sym h.0) (facts.int i h.1), f)
    typed_eval (t.Str text) env types r s h e f = (subst (V (v.Str text)) (sym h.0) (facts.text text h.1), f)
    typed_eval (t.Bool b) env types r s h e f = (subst (V (v.Bool b)) (sym h) (facts.bool b), f)
    typed_eval (t.Make' o _ args) env types r s (ts, hs, op) e f =
        comes_after (λ xs. AllZip V xs ts) (λ x. V x r) S B (eval_all d c args env s) (d o) (typed_all args env types ts s hs e f)
        (λ xs u vs fu. facts.deeds o ts r xs u op vs fu)
    typed_eval (t.Call' g _ args) env types r s (ts, hs, at) e f =
        comes_after (λ xs. AllZip V xs ts) (λ x. V x r) S B (eval_all d c args env s) (λ xs u. charge 1 u (c g xs)) (typed_all args env types ts s hs e f)
        (λ xs u vs fu. calls g ts r xs u at vs fu)
    typed_eval (t.Let' _ args _ body) env types r s (ts, hs, hb) e f =
        comes_after (λ xs. AllZip V xs ts) (λ x. V x r) S B (eval_all d c args env s) (λ xs u. eval_one d c body (xs ++ env) u) (typed_all args env types ts s hs e f)
        (λ xs u vs fu. typed_one body (xs ++ env) (ts ++ types) r u hb (both_of V xs ts env types vs e) fu)
    typed_eval (t.If' _ x _ a _ b) env types r s (hx, ha, hb) e f =
        comes_after (λ y. V y ty.Bool) (λ y. V y r) S B (eval_one d c x env s) (λ y u. choose y (eval_one d c a env u) (eval_one d c b env u))
        (typed_one x env types ty.Bool s hx e f)
        (λ y u vy fu. typed_choice r y _ _ vy (typed_one a env types r u ha e fu) (typed_one b env types r u hb e fu))
    typed_eval (t.Case' _ x _ branches) env types r s (a, hx, hbs, cover) e f =
        comes_after (λ y. V y a) (λ y. V y r) S B (eval_one d c x env s) (λ y u. eval_branches d c branches y env u) (typed_one x env types a s hx e f)
        (λ y u vy fu. let one = facts.covers (patterns_of branches) a y cover vy in
        typed_branches branches y env types a r u hbs vy e fu (some_match y one.0 branches one.1 one.2))
    typed_eval (t.Each' _ rows _ body) env types r s (a, hr, hb, xml) e f =
        comes_after (λ x. V x (ty.Many a)) (λ x. V x r) S B (eval_one d c rows env s) _ (typed_one rows env types (ty.Many a) s hr e f)
        (λ x u vx fu. let items = facts.as_items x a vx in
        comes_given (λ x. V x r) S B (as_items x) items.0 _ items.1
        (comes_after (AllByRecursion (λ y. V y r)) (λ x. V x r) S B (for_each (λ item. eval_one d c body (item ∷ env)) items.0 u) joined
        (typed_each r (λ item. eval_one d c body (item ∷ env)) (λ y. V y a)
        (λ y w vy fw. typed_one body (y ∷ env) (a ∷ types) r w hb (vy, e) fw) items.0 u items.2 fu)
        (λ ys w vs fw. facts.joins r ys w xml vs fw)))

    pub typed_one : {m : _} (a : Row_of-Term m) (env : List Value) (types : List ValueType) (r : ValueType) (s : State) → OneHasType sig types a r → AllZip V env types
        → S s → Comes (λ x. V x r) S B (eval_one d c a env s)
    typed_one end_of-Term env types r s h e f = absurd h
    typed_one (more_of-Term x rest) env types r s h e f = typed_eval x env types r s h e f

    pub typed_all : {m : _} (as_ : Row_of-Term m) (env : List Value) (types ts : List ValueType) (s : State) → HaveTypes sig types as_ ts → AllZip V env types
        → S s → Comes (λ xs. AllZip V xs ts) S B (eval_all d c as_ env s)
    typed_all end_of-Term env types ts s h e f = (subst (AllZip V []) (sym h) tt, f)
    typed_all (more_of-Term x rest) env types ts s (a, others, is, hx, hs) e f =
        comes_after (λ y. V y a) (λ xs. AllZip V xs ts) S B (eval d c x env s) _ (typed_eval x env types a s hx e f) (λ y u vy fu.
        comes_after (λ ys. AllZip V ys others) (λ xs. AllZip V xs ts) S B (eval_all d c rest env u) _ (typed_all rest env types others u hs e fu)
        (λ ys w vs fw. (subst (AllZip V (y ∷ ys)) (sym is) (vy, vs), fw)))

    pub typed_branches : {m : _} (bs : Row_of-Branch m) (x : Value) (env : List Value) (types : List ValueType) (a r : ValueType) (s : State) → BranchesHave sig types a bs r
        → V x a → AllZip V env types → S s → SomeMatch x bs → Comes (λ y. V y r) S B (eval_branches d c bs x env s)
    typed_branches end_of-Branch x env types a r s h vx e f one = absurd one
    typed_branches (more_of-Branch pattern body rest) x env types a r s (bound, binds, hb, hs) vx e f one =
        tried V S B bound r (matched pattern x) (λ xs. eval d c body (xs ++ env) s) (eval_branches d c rest x env s) (SomeMatch x rest) one (facts.binds pattern a bound x binds vx)
        (λ xs vs. typed_eval body (xs ++ env) (bound ++ types) r s hb (both_of V xs bound env types vs e) f)
        (λ k. typed_branches rest x env types a r s hs vx e f k)

-- ---- functions

pub comes_charge : {A : Type 0} (P : A → Type 0) (S : State → Type 0) (B : Value → Type 0) (n : ℕ) (s : State) (go : State → Outcome A)
    → (n ≤ s.units → Comes P S B (go (record s { units = s.units - n }))) → Comes P S B (charge n s go)
comes_charge P S B n s go h = either (nat_le n s.units) refl
  where
    either : (b : Bool) → nat_le n s.units ≡ b → Comes P S B (if b then go (record s { units = s.units - n }) else Spent s.events)
    either true e = h (grind (arith, nat_tests))
    either false e = tt

-- the function that is declared at a place, and its body
pub at_function : (sig : Signature) (fs : List Function) (i : ℕ) (ts : List ValueType) (r : ValueType) → AllByRecursion (FitsFunction sig) fs
    → slice_get (map function_type fs) i ≡ Some (ts, r)
    → (f : Function) × (slice_get fs i ≡ Some f) × HasType sig ts f.body r
at_function sig [] i ts r h e = absurd (none_some e)
  where
    none_some : {A : Type 0} {x : A} → None ≡ Some x → ⊥
    none_some e = cc
at_function sig (f ∷ fs) zero ts r h e =
    (f, refl, subst (λ (p : List ValueType × ValueType). HasType sig p.0 f.body p.1) (some_same e) h.0)
  where
    some_same : {A : Type 0} {x y : A} → Some x ≡ Some y → x ≡ y
    some_same e = cc
at_function sig (f ∷ fs) (suc i) ts r h e = at_function sig fs i ts r h.1 e

module _ (sig : Signature) (V : Value → ValueType → Type 0) (S : State → Type 0) (B : Value → Type 0) (d : Does) (facts : Typing sig V S B d)
    (charged : (n : ℕ) (s : State) → S s → S (record s { units = s.units - n }))
    (fs : List Function) (declared : sig.functions ≡ map function_type fs) (fit : AllByRecursion (FitsFunction sig) fs) where
  pub typed_run : (n f : ℕ) (ts : List ValueType) (r : ValueType) (xs : List Value) (s : State) → slice_get sig.functions f ≡ Some (ts, r) → AllZip V xs ts → S s
      → Comes (λ x. V x r) S B (run d fs n f xs s)
  typed_run zero f ts r xs s at vs ft = tt
  typed_run (suc n) f ts r xs s at vs ft =
      let found = at_function sig fs f ts r fit (subst (λ x. slice_get x f ≡ Some (ts, r)) declared at) in
      comes_given (λ x. V x r) S B (slice_get fs f) found.0 (λ function. eval d (run d fs n) function.body xs s) found.1
      (typed_eval sig V S B d (run d fs n) facts
      (λ g us q ys u at vs fu. comes_charge (λ x. V x q) S B 1 u (run d fs n g ys) (λ few. typed_run n g us q ys (record u { units = u.units - 1 }) at vs (charged 1 u fu)))
      found.0.body xs ts r s found.2 vs ft)

  -- a call of a function that is declared comes to a value of its type
  pub typed_outcome : (f : ℕ) (ts : List ValueType) (r : ValueType) (xs : List Value) (s : State) → slice_get sig.functions f ≡ Some (ts, r) → AllZip V xs ts → S s
      → Comes (λ x. V x r) S B (outcome_of d fs f xs s)
  typed_outcome f ts r xs s at vs ft = typed_run (suc s.units) f ts r xs s at vs ft
