-- Terms that only ask come to what they come to wherever their queries are answered so.
use Rattle.std.proofs.Common.{◌≡◌, ℕ, zero, suc, ◌-◌, ◌<◌, ◌≤◌, List, [], ◌∷◌, ◌++◌, Option, Some, None, Contains, refl, sym, ◌∙◌, arith, rules}
use Rattle.std.specs.Prelude.{if◌then◌else◌, slice_get}
use Rattle.std.proofs.lemmas.List.Elements.{Contains-append_right}
use Rattle.ur_values.specs.declared.value.Value.{Value}
use Rattle.ur_values.specs.Event.{Event}
use Rattle.ur_values.specs.Sql.{Sql}
use Rattle.ur_terms.specs.declared.term.Op.{Op}
use Rattle.ur_terms.specs.declared.term.Op.TheVariants as op
use Rattle.ur_terms.specs.declared.term.Term.{Term, Row_of-Term, end_of-Term, more_of-Term, Row_of-Branch, end_of-Branch, more_of-Branch}
use Rattle.ur_terms.specs.declared.term.Term.TheVariants as t
use Rattle.ur_terms.specs.declared.term.Function.{Function}
use Rattle.ur_terms.specs.State.{State, Outcome, Done, after, charge}
use Rattle.ur_terms.specs.Values.{as_bool, as_items}
use Rattle.ur_terms.specs.Ops.{given, does}
use Rattle.ur_terms.specs.Run.{Does, Calls, eval, eval_one, eval_all, eval_branches, for_each, joined, choose, matched, outcome_of}
use Rattle.ur_terms.proofs.Bound.{outcome_body}
use Rattle.ur_pure.specs.declared.act.Act.{Act}
use Rattle.ur_pure.specs.declared.act.Act.TheVariants as act
use Rattle.ur_pure.specs.Acts.{op_acts, acts, acts_of_all, acts_of_branches, Holds, itself, through, OnlyAsks}
use Rattle.ur_pure.specs.Fixed.{Fixed, Shapes, Anything, OnlyReads, Reads}
use Rattle.ur_pure.specs.Laws.{PureIsFixed}
use Rattle.ur_pure.proofs.Still.{op_still, join_still}
use Rattle.ur_pure.proofs.Spending.{fixed_still, fixed_done, fixed_same, fixed_after, fixed_given, fixed_if, fixed_match, fixed_charge, fixed_ask, fixed_each}
use Rattle.ur_pure.proofs.Reading.{IsHarmless, AreHarmless, harmless_first, harmless_last}

-- a call of a harmless function from a state with fewer units than these is fixed
abbrev pub CallsFixed : Sql → (List Event → Type 0) → (ℕ → Type 0) → Calls → ℕ → Type 0
CallsFixed sql Q P c n = (f : ℕ) (xs : List Value) (u t : State) (x : Value) → P f → u.units < n → c f xs u ≡ Done x t → Fixed sql Q (c f xs) u x t

module _ (sql : Sql) (d : Does) (reads : Reads sql d) (Q : List Event → Type 0) (shapes : Shapes Q) (P : ℕ → Type 0) (c : Calls) (n : ℕ)
    (known : CallsFixed sql Q P c n) where
  fixed_op : (o : Op) → AreHarmless P (op_acts o) → (xs : List Value) (s t : State) (x : Value) → does sql o xs s ≡ Done x t → Fixed sql Q (does sql o xs) s x t
  fixed_op (op.Ask how site) h xs s t x e = fixed_ask sql Q shapes how site xs s t x e
  fixed_op (op.Write update) h xs s t x e = absurd h.0
  fixed_op (op.Next q) h xs s t x e = absurd h.0
  fixed_op (op.GetCookie k) h xs s t x e = absurd h.0
  fixed_op (op.SetCookie k) h xs s t x e = absurd h.0
  fixed_op o h xs s t x e = fixed_still sql Q shapes (does sql o xs) s x t (op_still sql o tt xs s x t e)

  only_reads : (o : Op) → AreHarmless P (op_acts o) → OnlyReads o
  only_reads (op.Write update) h = absurd h.0
  only_reads (op.Next q) h = absurd h.0
  only_reads (op.GetCookie k) h = absurd h.0
  only_reads (op.SetCookie k) h = absurd h.0
  only_reads o h = tt

  fixed_deed : (o : Op) → AreHarmless P (op_acts o) → (xs : List Value) (s t : State) (x : Value) → d o xs s ≡ Done x t → Fixed sql Q (d o xs) s x t
  fixed_deed o h xs s t x e = fixed_same sql Q shapes (d o xs) (does sql o xs) (λ u. reads.same o (only_reads o h) xs u) s x t
      (fixed_op o h xs s t x (sym (reads.same o (only_reads o h) xs s) ∙ e))

  fixed_choice : (y : Value) (go come : State → Outcome Value) (s t : State) (x : Value)
      → (go s ≡ Done x t → Fixed sql Q go s x t) → (come s ≡ Done x t → Fixed sql Q come s x t)
      → choose y (go s) (come s) ≡ Done x t → Fixed sql Q (λ u. choose y (go u) (come u)) s x t
  fixed_choice y go come s t x h k e =
      fixed_given sql Q shapes (as_bool y) (λ b u. if b then go u else come u) s t x (λ b i. fixed_if sql Q shapes b go come s t x h k i) e

  fixed_call : (f : ℕ) → P f → (xs : List Value) (s t : State) (x : Value) → s.units ≤ n → charge 1 s (c f xs) ≡ Done x t
      → Fixed sql Q (λ u. charge 1 u (c f xs)) s x t
  fixed_call f p xs s t x few e = fixed_charge sql Q shapes 1 (c f xs) s t x
      (λ some i. known f xs (record s { units = s.units - 1 }) t x p (let less : s.units - 1 < n = omega (arith, some, few) in less) i) e

  mutual
    pub fixed_eval : (a : Term) → AreHarmless P (acts a) → (env : List Value) (s t : State) (x : Value) → s.units ≤ n
        → eval d c a env s ≡ Done x t → Fixed sql Q (eval d c a env) s x t
    fixed_eval (t.Variable i) h env s u x few e =
        fixed_given sql Q shapes (slice_get env i) (λ y s. Done y s) s u x (λ y k. fixed_done sql Q shapes s y x u k) e
    fixed_eval (t.Int i) h env s u x few e = fixed_done sql Q shapes s _ x u e
    fixed_eval (t.Str text) h env s u x few e = fixed_done sql Q shapes s _ x u e
    fixed_eval (t.Bool b) h env s u x few e = fixed_done sql Q shapes s _ x u e
    fixed_eval (t.Make' o _ args) h env s u x few e =
        fixed_after sql Q shapes n (eval_all d c args env) (d o) s u x few
        (λ ys w k. fixed_all args (harmless_last P (op_acts o) (acts_of_all args) h) env s w ys few k)
        (λ ys w less k. fixed_deed o (harmless_first P (op_acts o) (acts_of_all args) h) ys w u x k) e
    fixed_eval (t.Call' f _ args) h env s u x few e =
        fixed_after sql Q shapes n (eval_all d c args env) (λ ys w. charge 1 w (c f ys)) s u x few
        (λ ys w k. fixed_all args h.1 env s w ys few k)
        (λ ys w less k. fixed_call f h.0 ys w u x less k) e
    fixed_eval (t.Let' _ args _ body) h env s u x few e =
        fixed_after sql Q shapes n (eval_all d c args env) (λ ys w. eval_one d c body (ys ++ env) w) s u x few
        (λ ys w k. fixed_all args (harmless_first P (acts_of_all args) (acts_of_all body) h) env s w ys few k)
        (λ ys w less k. fixed_one body (harmless_last P (acts_of_all args) (acts_of_all body) h) (ys ++ env) w u x less k) e
    fixed_eval (t.If' _ q _ a _ b) h env s u x few e =
        let first = harmless_first P (acts_of_all q ++ acts_of_all a) (acts_of_all b) h in
        let last = harmless_last P (acts_of_all q ++ acts_of_all a) (acts_of_all b) h in
        fixed_after sql Q shapes n (eval_one d c q env) (λ y w. choose y (eval_one d c a env w) (eval_one d c b env w)) s u x few
        (λ y w k. fixed_one q (harmless_first P (acts_of_all q) (acts_of_all a) first) env s w y few k)
        (λ y w less k. fixed_choice y (eval_one d c a env) (eval_one d c b env) w u x
        (λ i. fixed_one a (harmless_last P (acts_of_all q) (acts_of_all a) first) env w u x less i)
        (λ i. fixed_one b last env w u x less i) k) e
    fixed_eval (t.Case' _ q _ bs) h env s u x few e =
        fixed_after sql Q shapes n (eval_one d c q env) (λ y w. eval_branches d c bs y env w) s u x few
        (λ y w k. fixed_one q (harmless_first P (acts_of_all q) (acts_of_branches bs) h) env s w y few k)
        (λ y w less k. fixed_branches bs (harmless_last P (acts_of_all q) (acts_of_branches bs) h) y env w u x less k) e
    fixed_eval (t.Each' _ rows _ body) h env s u x few e =
        fixed_after sql Q shapes n (eval_one d c rows env)
        (λ y w. given (as_items y) (λ items. after (for_each (λ item. eval_one d c body (item ∷ env)) items w) joined)) s u x few
        (λ y w k. fixed_one rows (harmless_first P (acts_of_all rows) (acts_of_all body) h) env s w y few k)
        (λ y w less k. fixed_given sql Q shapes (as_items y) (λ items w. after (for_each (λ item. eval_one d c body (item ∷ env)) items w) joined) w u x
        (λ items i. fixed_after sql Q shapes n (for_each (λ item. eval_one d c body (item ∷ env)) items) joined w u x less
        (λ ys z j. fixed_each sql Q shapes n (λ item. eval_one d c body (item ∷ env))
        (λ item s t x few j. fixed_one body (harmless_last P (acts_of_all rows) (acts_of_all body) h) (item ∷ env) s t x few j) items w z ys less j)
        (λ ys z fewer j. fixed_still sql Q shapes (joined ys) z x u (join_still ys z x u j)) i) k) e

    pub fixed_one : {m : _} (a : Row_of-Term m) → AreHarmless P (acts_of_all a) → (env : List Value) (s t : State) (x : Value) → s.units ≤ n
        → eval_one d c a env s ≡ Done x t → Fixed sql Q (eval_one d c a env) s x t
    fixed_one end_of-Term h env s u x few e = cc
    fixed_one (more_of-Term a rest) h env s u x few e = fixed_eval a (harmless_first P (acts a) (acts_of_all rest) h) env s u x few e

    pub fixed_all : {m : _} (a : Row_of-Term m) → AreHarmless P (acts_of_all a) → (env : List Value) (s t : State) (xs : List Value) → s.units ≤ n
        → eval_all d c a env s ≡ Done xs t → Fixed sql Q (eval_all d c a env) s xs t
    fixed_all end_of-Term h env s u xs few e = fixed_done sql Q shapes s [] xs u e
    fixed_all (more_of-Term a rest) h env s u xs few e =
        fixed_after sql Q shapes n (eval d c a env) (λ y w. after (eval_all d c rest env w) (λ ys z. Done (y ∷ ys) z)) s u xs few
        (λ y w k. fixed_eval a (harmless_first P (acts a) (acts_of_all rest) h) env s w y few k)
        (λ y w less k. fixed_after sql Q shapes n (eval_all d c rest env) (λ ys z. Done (y ∷ ys) z) w u xs less
        (λ ys z i. fixed_all rest (harmless_last P (acts a) (acts_of_all rest) h) env w z ys less i)
        (λ ys z fewer i. fixed_done sql Q shapes z (y ∷ ys) xs u i) k) e

    pub fixed_branches : {m : _} (bs : Row_of-Branch m) → AreHarmless P (acts_of_branches bs) → (y : Value) (env : List Value) (s t : State) (x : Value)
        → s.units ≤ n
        → eval_branches d c bs y env s ≡ Done x t → Fixed sql Q (eval_branches d c bs y env) s x t
    fixed_branches end_of-Branch h y env s u x few e = cc
    fixed_branches (more_of-Branch pattern body rest) h y env s u x few e =
        fixed_match sql Q shapes (matched pattern y) (λ bound. eval d c body (bound ++ env)) (eval_branches d c rest y env) s u x
        (λ bound k. fixed_eval body (harmless_first P (acts body) (acts_of_branches rest) h) (bound ++ env) s u x few k)
        (λ k. fixed_branches rest (harmless_last P (acts body) (acts_of_branches rest) h) y env s u x few k) e

-- ---- calls

-- what is called from a function that only asks only asks
called_asks : (fs : List Function) (f g : ℕ) → OnlyAsks fs f → Holds fs f (act.Calls g) → OnlyAsks fs g
called_asks fs f g only held = λ h reached touch. only h (through f g h held reached) touch

module _ (fs : List Function) (f : ℕ) (function : Function) (e : slice_get fs f ≡ Some function) (only : OnlyAsks fs f) where
  act_harmless : (a : Act) → Contains (acts function.body) a → IsHarmless (OnlyAsks fs) a
  act_harmless (act.Calls g) h = called_asks fs f g only (record { function = function; is_function = e; held = h })
  act_harmless act.Asks h = tt
  act_harmless act.Touches h = only f (itself f) (record { function = function; is_function = e; held = h })

  acts_harmless : (items : List Act) → ((a : Act) → Contains items a → Contains (acts function.body) a) → AreHarmless (OnlyAsks fs) items
  acts_harmless [] h = tt
  acts_harmless (a ∷ items) h = (act_harmless a (h a (search rules)), acts_harmless items (λ b k. h b (Contains-append_right (a ∷ []) items b k)))

  pub body_harmless : AreHarmless (OnlyAsks fs) (acts function.body)
  body_harmless = acts_harmless (acts function.body) (λ a h. h)

module _ (sql : Sql) (d : Does) (reads : Reads sql d) (Q : List Event → Type 0) (shapes : Shapes Q) (fs : List Function) where
  fixed_body : (f : ℕ) → OnlyAsks fs f → (n : ℕ) → CallsFixed sql Q (OnlyAsks fs) (outcome_of d fs) n → (xs : List Value) (s t : State) (x : Value)
      → s.units ≤ n
      → (o : Option Function) → slice_get fs f ≡ o → given o (λ function. eval d (outcome_of d fs) function.body xs s) ≡ Done x t
      → Fixed sql Q (λ s. given o (λ function. eval d (outcome_of d fs) function.body xs s)) s x t
  fixed_body f only n known xs s t x few None is e = cc
  fixed_body f only n known xs s t x few (Some function) is e =
      fixed_eval sql d reads Q shapes (OnlyAsks fs) (outcome_of d fs) n known function.body (body_harmless fs f function is only) xs s t x few e

  fixed_below : (n : ℕ) → CallsFixed sql Q (OnlyAsks fs) (outcome_of d fs) n
  fixed_below zero f xs s t x only few e = absurd (omega (arith, few))
  fixed_below (suc n) f xs s t x only few e =
      fixed_same sql Q shapes (outcome_of d fs f xs) (λ s. given (slice_get fs f) (λ function. eval d (outcome_of d fs) function.body xs s))
      (λ u. outcome_body d reads.units fs f xs u) s x t
      (fixed_body f only n (fixed_below n) xs s t x (let less : s.units ≤ n = omega (arith, few) in less) (slice_get fs f) refl
      (sym (outcome_body d reads.units fs f xs s) ∙ e))

  -- What a call of a function that only asks comes to it comes to wherever its queries are answered so.
  pub fixed_outcome : (f : ℕ) (xs : List Value) (s t : State) (x : Value) → OnlyAsks fs f → outcome_of d fs f xs s ≡ Done x t
      → Fixed sql Q (outcome_of d fs f xs) s x t
  fixed_outcome f xs s t x only e = fixed_below (suc s.units) f xs s t x only (let less : s.units < suc s.units = omega arith in less) e

pub pure_is_fixed : PureIsFixed
pure_is_fixed sql d reads fs f xs s t x only e =
    fixed_outcome sql d reads Anything (record { none = tt; both = λ es gs a b. tt; asked = λ site key rows. tt }) fs f xs s t x only e
