-- Units never rise, and a call comes to the same whatever bound on nested calls it has, once it exceeds the units left.
use Rattle.std.proofs.Common.{◌≡◌, ℕ, zero, suc, ◌-◌, ◌<◌, ◌≤◌, List, Bool, true, false, if◌then◌else◌, refl, ap, subst, arith}
use Rattle.std.specs.Prelude.{nat_le, slice_get}
use Rattle.std.proofs.lemmas.Bool.{leb-true}
use Rattle.ur_values.specs.declared.value.Value.{Value}
use Rattle.ur_values.specs.Event.{Event}
use Rattle.ur_values.specs.Sql.{Sql}
use Rattle.ur_terms.specs.declared.term.Op.{Op}
use Rattle.ur_terms.specs.declared.term.Term.{Term}
use Rattle.ur_terms.specs.declared.term.Function.{Function}
use Rattle.ur_terms.specs.State.{State, Outcome, Done, Error, Spent, Stuck, charge, note, LeavesAtMost}
use Rattle.ur_terms.specs.Ops.{given, does}
use Rattle.ur_terms.specs.Run.{Does, Calls, eval, run, outcome_of, joined, NeverRaises}
use Rattle.ur_terms.proofs.Equations.{given_same}
use Rattle.ur_terms.proofs.Alike.{Both, both_done, both_error, both_spent, both_stuck, both_given, both_eval}
use Rattle.ur_terms.proofs.Steady.{Steady, both_does, both_joined}

-- one state, with at most so many units
abbrev pub Same : ℕ → State → State → Type 0
Same u s t = (s ≡ t) × (s.units ≤ u)

abbrev pub SameEvents : List Event → List Event → Type 0
SameEvents e f = e ≡ f

-- one outcome, and where it is done at most so many units are left
abbrev pub AtMost : {A : Type 0} → ℕ → Outcome A → Outcome A → Type 0
AtMost u o p = Both (Same u) SameEvents o p

pub same_steady : (u : ℕ) → Steady (Same u) SameEvents
same_steady u = record {
  store = λ s t r. ap (λ x. x.store) r.0;
  carried = λ s t r. ap (λ x. x.carried) r.0;
  sent = λ s t r. ap (λ x. x.sent) r.0;
  units = λ s t r. ap (λ x. x.units) r.0;
  events = λ s t r. ap (λ x. x.events) r.0;
  noted = λ e s t r. (ap (note e) r.0, r.1);
  charged = λ k s t r. (ap (λ (x : State). record x { units = x.units - k }) r.0, omega (arith, r.1));
  stored = λ x s t r. (ap (λ (y : State). record y { store = x }) r.0, r.1);
  cookied = λ xs s t r. (ap (λ (y : State). record y { sent = xs }) r.0, r.1);
}

pub equal_of : {A : Type 0} (u : ℕ) (o p : Outcome A) → AtMost u o p → o ≡ p
equal_of u o p (both_done x s t r) = ap (Done x) r.0
equal_of u o p (both_error body e f r) = ap (Error body) r
equal_of u o p (both_spent e f r) = ap Spent r
equal_of u o p both_stuck = refl

pub more_units : {A : Type 0} (u w : ℕ) (o p : Outcome A) → u ≤ w → AtMost u o p → AtMost w o p
more_units u w o p h (both_done x s t r) = both_done x s t (r.0, omega (arith, r.1))
more_units u w o p h (both_error body e f r) = both_error body e f r
more_units u w o p h (both_spent e f r) = both_spent e f r
more_units u w o p h both_stuck = both_stuck

pub at_same : {A : Type 0} (u : ℕ) (o p q : Outcome A) → p ≡ q → AtMost u o p → AtMost u o q
at_same u o p q e h = subst (AtMost u o) e h

-- a charged call, where calls with fewer units agree
pub charged_calls : (c d : Calls) (u : ℕ)
    → ((w : ℕ) → w < u → (f : ℕ) (xs : List Value) (s : State) → s.units ≤ w → AtMost w (c f xs s) (d f xs s))
    → (f : ℕ) (xs : List Value) (s t : State) → Same u s t → AtMost u (charge 1 s (c f xs)) (charge 1 t (d f xs))
charged_calls c d u h f xs s t r = at_same u _ _ _ (ap (λ x. charge 1 x (d f xs)) r.0) (decided (nat_le 1 s.units) refl)
  where
    decided : (b : Bool) → nat_le 1 s.units ≡ b
        → AtMost u (if b then c f xs (record s { units = s.units - 1 }) else Spent s.events) (if b then d f xs (record s { units = s.units - 1 }) else Spent s.events)
    decided true e =
        let some : 1 ≤ s.units = leb-true 1 s.units e in
        let few : s.units ≤ u = r.1 in
        more_units (u - 1) u _ _ (omega arith) (h (u - 1) (omega arith) f xs (record s { units = s.units - 1 }) (omega arith))
    decided false e = both_spent _ _ refl

pub leaves_of : {A : Type 0} (u : ℕ) (o p : Outcome A) → AtMost u o p → LeavesAtMost u o
leaves_of u o p (both_done x s t r) = r.1
leaves_of u o p (both_error body e f r) = tt
leaves_of u o p (both_spent e f r) = tt
leaves_of u o p both_stuck = tt

pub of_leaves : {A : Type 0} (u w : ℕ) (o : Outcome A) → LeavesAtMost u o → u ≤ w → AtMost w o o
of_leaves u w (Done x s) h k = both_done x s s (refl, omega arith)
of_leaves u w (Error body events) h k = both_error body _ _ refl
of_leaves u w (Spent events) h k = both_spent _ _ refl
of_leaves u w Stuck h k = both_stuck

pub does_never_raises : (sql : Sql) → NeverRaises (does sql)
does_never_raises sql o xs s = leaves_of s.units _ _ (both_does (Same s.units) SameEvents (same_steady s.units) sql o xs s s (refl, omega arith))

module _ (d : Does) (steady : NeverRaises d) (fs : List Function) where
  pub deeds : (u : ℕ) (o : Op) (xs : List Value) (s t : State) → Same u s t → AtMost u (d o xs s) (d o xs t)
  deeds u o xs s t r = at_same u _ _ _ (ap (d o xs) r.0) (of_leaves s.units u _ (steady o xs s) r.1)

  pub joins : (u : ℕ) (xs : List Value) (s t : State) → Same u s t → AtMost u (joined xs s) (joined xs t)
  joins u = both_joined (Same u) SameEvents (same_steady u)

  -- runs with two bounds, both above the units left
  pub both_bounds : (n m u : ℕ) → u < n → u < m → (f : ℕ) (xs : List Value) (s : State) → s.units ≤ u
      → AtMost u (run d fs n f xs s) (run d fs m f xs s)
  both_bounds zero m u h k f xs s l = absurd (omega arith)
  both_bounds (suc n) zero u h k f xs s l = absurd (omega arith)
  both_bounds (suc n) (suc m) u h k f xs s l =
      both_given (Same u) SameEvents (slice_get fs f) _ _ (λ function.
      both_eval (Same u) SameEvents d d (run d fs n) (run d fs m)
      (charged_calls (run d fs n) (run d fs m) u (λ w w_less g ys t few. both_bounds n m w (omega arith) (omega arith) g ys t few))
      (deeds u) (joins u) function.body xs s s (refl, l))

  -- A call comes to the same under each bound that exceeds the units left.
  pub same_run : (n m f : ℕ) (xs : List Value) (s : State) → s.units < n → s.units < m → run d fs n f xs s ≡ run d fs m f xs s
  same_run n m f xs s h k = equal_of s.units _ _ (both_bounds n m s.units h k f xs s (omega arith))

  outcome_calls : (n u : ℕ) → u ≤ n → (f : ℕ) (xs : List Value) (s t : State) → Same u s t
      → AtMost u (charge 1 s (run d fs n f xs)) (charge 1 t (outcome_of d fs f xs))
  outcome_calls n u h = charged_calls (run d fs n) (outcome_of d fs) u (λ w less f xs s few.
      more_units s.units w _ _ few (both_bounds n (suc s.units) s.units (omega arith) (omega arith) f xs s (omega arith)))

  pub both_outcomes : (n : ℕ) (a : Term) (env : List Value) (s : State) → s.units ≤ n
      → AtMost s.units (eval d (run d fs n) a env s) (eval d (outcome_of d fs) a env s)
  both_outcomes n a env s h =
      both_eval (Same s.units) SameEvents d d (run d fs n) (outcome_of d fs)
      (outcome_calls n s.units h) (deeds s.units) (joins s.units) a env s s (refl, omega arith)

  -- A term comes to the same whether its calls are bounded by the units at its beginning or by those at each call.
  pub same_eval : (n : ℕ) (a : Term) (env : List Value) (s : State) → s.units ≤ n
      → eval d (run d fs n) a env s ≡ eval d (outcome_of d fs) a env s
  same_eval n a env s h = equal_of s.units _ _ (both_outcomes n a env s h)

  -- What a call comes to is what its body comes to.
  pub outcome_body : (f : ℕ) (xs : List Value) (s : State)
      → outcome_of d fs f xs s ≡ given (slice_get fs f) (λ function. eval d (outcome_of d fs) function.body xs s)
  outcome_body f xs s = given_same (slice_get fs f) _ _ (λ function. same_eval s.units function.body xs s (omega arith))

  -- Units never rise.
  pub outcome_leaves : (f : ℕ) (xs : List Value) (s : State) → LeavesAtMost s.units (outcome_of d fs f xs s)
  outcome_leaves f xs s =
      leaves_of s.units _ _ (both_bounds (suc s.units) (suc s.units) s.units (omega arith) (omega arith) f xs s (omega arith))

  pub eval_leaves : (a : Term) (env : List Value) (s : State) → LeavesAtMost s.units (eval d (outcome_of d fs) a env s)
  eval_leaves a env s = leaves_same _ _ (same_eval s.units a env s (omega arith)) (leaves_of s.units _ _ (both_outcomes s.units a env s (omega arith)))
    where
      leaves_same : (o p : Outcome Value) → o ≡ p → LeavesAtMost s.units o → LeavesAtMost s.units p
      leaves_same o p e = subst (LeavesAtMost s.units) e
