-- Calls that are not stuck.
use Rattle.std.proofs.Common.{◌≡◌, ℕ, zero, suc, ℤ, pos, Bool, true, false, if◌then◌else◌, List, [], ◌∷◌, ◌++◌, Option, Some, None, refl, sym, ap, subst, ◌∙◌}
use Rattle.std.specs.Prelude.{◌-◌, nat_le}
use Rattle.ur_values.specs.declared.value.Value.{Value}
use Rattle.ur_values.specs.declared.value.Value.TheVariants as v
use Rattle.ur_terms.specs.declared.term.Branch.{Branch}
use Rattle.ur_terms.specs.declared.term.Function.{Function}
use Rattle.ur_terms.specs.declared.term.Op.TheVariants as op
use Rattle.ur_terms.specs.declared.term.Pattern.TheVariants as p
use Rattle.ur_terms.specs.declared.term.Term.{Term}
use Rattle.ur_terms.specs.declared.term.Term.TheVariants as t
use Rattle.ur_terms.specs.State.{State, Outcome, Done, Error, Spent, Stuck, after, charge}
use Rattle.ur_terms.specs.Run.{Calls, eval, matched, matched_open, on_match, run, outcome_of}
use Rattle.ur_terms.proofs.Equations.{eval-Make, eval-Call, eval-Case}
use Rattle.ur_machine_frames.specs.Plays.{until}
use Rattle.bench.specs.Running.{function, one_and_rest, branches, counting, IsOneList, IsSum, AreSums, IsSafeCall}

-- ---- sums that nest

pub none_more : IsSum (t.Int (pos 0))
none_more c env s = (pos 0, refl)

pub one_more : (a : Term) → IsSum a → IsSum (t.Make op.Add (t.Int (pos 1) ∷ a ∷ []))
one_more a h c env s =
    let k = h c env s in (
      _,
      eval-Make until c op.Add (t.Int (pos 1) ∷ a ∷ []) env s
          ∙ ap (λ o. after (after (after o (λ y u. Done (y ∷ []) u)) (λ ys u. Done (v.Int (pos 1) ∷ ys) u)) (until op.Add)) k.1,
    )

pub sums_are_safe : (fs : List Function) (args : List Value) → AreSums fs → IsSafeCall fs args
sums_are_safe fs args (body, h, e) s stuck =
    let k = h (run until (function body ∷ []) s.units) args s in
    never _ _ (sym k.1 ∙ sym (ap (λ f. outcome_of until f 0 args s) e) ∙ stuck)
  where
    never : (x : Value) (u : State) → Done x u ≡ Stuck → ⊥
    never x u e = cc

-- ---- rows that are counted

-- an int, or an end of another kind
abbrev IsCounted : Outcome Value → Type 0
IsCounted (Done x s) = (n : ℤ) × (x ≡ v.Int n)
IsCounted (Error body events) = Unit {0}
IsCounted (Spent events) = Unit {0}
IsCounted Stuck = ⊥

charged : (s : State) (go : State → Outcome Value) → ((t : State) → IsCounted (go t)) → IsCounted (charge 1 s go)
charged s go h = by (nat_le 1 s.units)
  where
    by : (b : Bool) → IsCounted (if b then go (record s { units = s.units - 1 }) else Spent s.events)
    by true = h _
    by false = tt

one_added : (o : Outcome Value) → IsCounted o → IsCounted (after (after (after o (λ y u. Done (y ∷ []) u)) (λ ys u. Done (v.Int (pos 1) ∷ ys) u)) (until op.Add))
one_added (Done x s) h = subst (λ y. IsCounted (until op.Add (v.Int (pos 1) ∷ y ∷ []) s)) (sym h.1) (_, refl)
one_added (Error body events) h = tt
one_added (Spent events) h = tt
one_added Stuck h = h

module _ (c : Calls) (calls : (rows : List Value) (s : State) → IsCounted (c 0 (v.Many rows ∷ []) s)) where
  rest_counted : (row : Value) (rows env : List Value) (s : State) → IsCounted (eval until c one_and_rest (row ∷ v.Many rows ∷ env) s)
  rest_counted row rows env s =
      subst IsCounted
      (sym (eval-Make until c op.Add (t.Int (pos 1) ∷ t.Call 0 (t.Variable 1 ∷ []) ∷ []) (row ∷ v.Many rows ∷ env) s
      ∙ ap (λ o. after (after (after o (λ y u. Done (y ∷ []) u)) (λ ys u. Done (v.Int (pos 1) ∷ ys) u)) (until op.Add))
      (eval-Call until c 0 (t.Variable 1 ∷ []) (row ∷ v.Many rows ∷ env) s)))
      (one_added (charge 1 s (c 0 (v.Many rows ∷ []))) (charged s (c 0 (v.Many rows ∷ [])) (λ u. calls rows u)))

  body_counted : (rows : List Value) (s : State) → IsCounted (eval until c (t.Case (t.Variable 0) branches) (v.Many rows ∷ []) s)
  body_counted [] s =
      subst IsCounted
      (sym (eval-Case until c (t.Variable 0) branches (v.Many [] ∷ []) s
      ∙ ap (λ m. on_match m (λ bound. Done (v.Int (pos 0)) s)
      (on_match (matched p.Cons (v.Many [])) (λ bound. eval until c one_and_rest (bound ++ v.Many [] ∷ []) s) Stuck)) (ap (matched_open p.Empty) (v.outs-Many []))))
      (pos 0, refl)
  body_counted (row ∷ rows) s =
      subst IsCounted
      (sym (eval-Case until c (t.Variable 0) branches (v.Many (row ∷ rows) ∷ []) s
      ∙ ap (λ m. on_match m (λ bound. Done (v.Int (pos 0)) s)
      (on_match (matched p.Cons (v.Many (row ∷ rows))) (λ bound. eval until c one_and_rest (bound ++ v.Many (row ∷ rows) ∷ []) s) Stuck)) (ap (matched_open p.Empty) (v.outs-Many (row ∷ rows)))
      ∙ ap (λ m. on_match m (λ bound. eval until c one_and_rest (bound ++ v.Many (row ∷ rows) ∷ []) s) Stuck) (ap (matched_open p.Cons) (v.outs-Many (row ∷ rows)))))
      (rest_counted row rows (v.Many (row ∷ rows) ∷ []) s)

counted : (n : ℕ) (rows : List Value) (s : State) → IsCounted (run until counting n 0 (v.Many rows ∷ []) s)
counted zero rows s = tt
counted (suc n) rows s = body_counted (run until counting n) (counted n) rows s

pub counting_is_safe : (fs : List Function) (args : List Value) → fs ≡ counting → IsOneList args → IsSafeCall fs args
counting_is_safe fs args e (rows, f) s stuck =
    subst IsCounted (ap (λ l. outcome_of until l 0 (v.Many rows ∷ []) s) (sym e) ∙ ap (λ l. outcome_of until fs 0 l s) (sym f) ∙ stuck) (counted (suc s.units) rows s)
