-- Operations that neither see nor change a state.
use Rattle.std.proofs.Common.{◌≡◌, ℤ, pos, List, [], ◌∷◌, ◌++◌, take, drop, Some, refl, ap}
use Rattle.std.specs.Prelude.{int_rem}
use Rattle.std.specs.Int.{w64, int_wrapping_div}
use Rattle.std.specs.Ordering.{int_eq}
use Rattle.ur_values.specs.declared.value.Value.{Value}
use Rattle.ur_values.specs.declared.value.Value.TheVariants as v
use Rattle.ur_values.specs.declared.value.Node.TheVariants as n
use Rattle.ur_values.specs.Event.{Event}
use Rattle.ur_values.specs.Size.{is_small}
use Rattle.ur_values.specs.Sql.{Sql}
use Rattle.ur_terms.specs.declared.term.Op.{Op}
use Rattle.ur_terms.specs.declared.term.Op.TheVariants as op
use Rattle.ur_terms.specs.declared.term.AnswerForm.{AnswerForm}
use Rattle.ur_terms.specs.declared.term.AnswerForm.TheVariants as form
use Rattle.ur_terms.specs.State.{State, Outcome, Done, built}
use Rattle.ur_terms.specs.Values.{as_int, as_bool, as_text, as_fields, as_items, all_nodes, shown, fields_of, field_at, fields_together}
use Rattle.ur_terms.specs.Ops.{does, divided, optional_text, with_unit, answered}
use Rattle.ur_terms.specs.Run.{joined}
use Rattle.ur_terms.proofs.Alike.{Both, both_done, both_error, both_spent, both_stuck, both_given, both_if}
use Rattle.ur_terms.proofs.Steady.{both_no_arg, both_one_arg, both_two_args, both_two_ints}

-- it neither asks nor touches anything
abbrev pub IsStill : Op → Type 0
IsStill (op.Ask how site) = ⊥
IsStill (op.Write update) = ⊥
IsStill (op.Next q) = ⊥
IsStill (op.GetCookie c) = ⊥
IsStill (op.SetCookie c) = ⊥
IsStill _ = Unit {0}

module _ (R : State → State → Type 0) (E : List Event → List Event → Type 0) (ev : (s t : State) → R s t → E s.events t.events) where
  still_built : (x : Value) (s t : State) → R s t → Both R E (built x s) (built x t)
  still_built x s t r = both_if R E (is_small x) _ _ _ _ (both_done x s t r) (both_spent _ _ (ev s t r))

  still_divided : (f : ℤ → ℤ → ℤ) (i j : ℤ) (s t : State) → R s t → Both R E (divided f i j s) (divided f i j t)
  still_divided f i j s t r = both_if R E (int_eq j (pos 0)) _ _ _ _ (both_error _ _ _ (ev s t r)) (both_done _ s t r)

  still_joined : (xs : List Value) (s t : State) → R s t → Both R E (joined xs s) (joined xs t)
  still_joined xs s t r = both_given R E (all_nodes xs) _ _ (λ nodes. still_built (v.Markup nodes) s t r)

  still_answered : (how : AnswerForm) (rows : List Value) (s t : State) → R s t → Both R E (answered how rows s) (answered how rows t)
  still_answered form.All rows s t r = still_built (v.Many rows) s t r
  still_answered form.One [] s t r = both_error _ _ _ (ev s t r)
  still_answered form.One (row ∷ []) s t r = still_built row s t r
  still_answered form.One (row ∷ other ∷ rest) s t r = both_error _ _ _ (ev s t r)
  still_answered form.OneOrNone [] s t r = both_done _ s t r
  still_answered form.OneOrNone (row ∷ []) s t r = still_built (v.Present row) s t r
  still_answered form.OneOrNone (row ∷ other ∷ rest) s t r = both_error _ _ _ (ev s t r)

  still_does : (sql : Sql) (o : Op) → IsStill o → (xs : List Value) (s t : State) → R s t → Both R E (does sql o xs s) (does sql o xs t)
  still_does sql op.Add h xs s t r = both_two_ints R E xs _ _ (λ a b. both_done _ s t r)
  still_does sql op.Sub h xs s t r = both_two_ints R E xs _ _ (λ a b. both_done _ s t r)
  still_does sql op.Mul h xs s t r = both_two_ints R E xs _ _ (λ a b. both_done _ s t r)
  still_does sql op.Div h xs s t r = both_two_ints R E xs _ _ (λ a b. still_divided (int_wrapping_div w64) a b s t r)
  still_does sql op.Rem h xs s t r = both_two_ints R E xs _ _ (λ a b. still_divided int_rem a b s t r)
  still_does sql op.Neg h xs s t r = both_one_arg R E xs _ _ (λ x. both_given R E (as_int x) _ _ (λ a. both_done _ s t r))
  still_does sql op.Append h xs s t r =
      both_two_args R E xs _ _ (λ a b. both_given R E (as_text a) _ _ (λ x. both_given R E (as_text b) _ _ (λ y. still_built (v.Str (x ++ y)) s t r)))
  still_does sql op.Not h xs s t r = both_one_arg R E xs _ _ (λ x. both_given R E (as_bool x) _ _ (λ a. both_done _ s t r))
  still_does sql op.Equal h xs s t r = both_two_args R E xs _ _ (λ a b. both_done _ s t r)
  still_does sql op.Unequal h xs s t r = both_two_args R E xs _ _ (λ a b. both_done _ s t r)
  still_does sql op.Less h xs s t r = both_two_args R E xs _ _ (λ a b. both_done _ s t r)
  still_does sql op.LessEqual h xs s t r = both_two_args R E xs _ _ (λ a b. both_done _ s t r)
  still_does sql op.Greater h xs s t r = both_two_args R E xs _ _ (λ a b. both_done _ s t r)
  still_does sql op.GreaterEqual h xs s t r = both_two_args R E xs _ _ (λ a b. both_done _ s t r)
  still_does sql op.Show h xs s t r = both_one_arg R E xs _ _ (λ x. both_given R E (shown x) _ _ (λ a. still_built (v.Str a) s t r))
  still_does sql (op.Record names) h xs s t r = both_given R E (fields_of names xs) _ _ (λ fs. still_built (v.Row fs) s t r)
  still_does sql (op.Project name) h xs s t r =
      both_one_arg R E xs _ _ (λ x. both_given R E (as_fields x) _ _ (λ fs. both_given R E (field_at name fs) _ _ (λ y. both_done _ s t r)))
  still_does sql op.Join h xs s t r =
      both_two_args R E xs _ _
      (λ a b. both_given R E (as_fields a) _ _ (λ fs. both_given R E (as_fields b) _ _ (λ gs. still_built (v.Row (fields_together fs gs)) s t r)))
  still_does sql (op.Cut name) h xs s t r = both_one_arg R E xs _ _ (λ x. both_given R E (as_fields x) _ _ (λ fs. both_done _ s t r))
  still_does sql (op.Absent of) h xs s t r = both_no_arg R E xs _ _ (both_done _ s t r)
  still_does sql op.Present h xs s t r = both_one_arg R E xs _ _ (λ x. still_built (v.Present x) s t r)
  still_does sql (op.Empty of) h xs s t r = both_no_arg R E xs _ _ (both_done _ s t r)
  still_does sql op.Cons h xs s t r = both_two_args R E xs _ _ (λ a b. both_given R E (as_items b) _ _ (λ items. still_built (v.Many (a ∷ items)) s t r))
  still_does sql (op.Tagged c) h [] s t r = both_done _ s t r
  still_does sql (op.Tagged c) h (x ∷ xs) s t r = both_one_arg R E (x ∷ xs) _ _ (λ y. still_built (v.Tagged c (Some y)) s t r)
  still_does sql (op.Fail of) h xs s t r = both_one_arg R E xs _ _ (λ x. both_error x _ _ (ev s t r))
  still_does sql (op.Markup of) h xs s t r = both_given R E (all_nodes xs) _ _ (λ nodes. still_built (v.Markup nodes) s t r)
  still_does sql (op.Text text) h xs s t r = both_no_arg R E xs _ _ (still_built (v.Markup (n.Text text ∷ [])) s t r)
  still_does sql op.Shown h xs s t r = both_one_arg R E xs _ _ (λ x. both_given R E (shown x) _ _ (λ a. still_built (v.Markup (n.Text a ∷ [])) s t r))
  still_does sql (op.Element tag) h xs s t r = both_given R E (all_nodes xs) _ _ (λ kids. still_built (v.Markup (n.Element tag kids ∷ [])) s t r)
  still_does sql (op.Link route k) h xs s t r =
      both_given R E (all_nodes (drop k xs)) _ _ (λ kids. still_built (v.Markup (n.Link (record { route = route; args = take k xs }) kids ∷ [])) s t r)
  still_does sql (op.Input kind name text) h xs s t r =
      both_given R E (optional_text xs) _ _ (λ value. still_built (v.Markup (n.Field kind text value ∷ [])) s t r)
  still_does sql (op.Submit route k unit) h xs s t r =
      both_given R E (optional_text (drop k xs)) _ _
      (λ label. still_built (v.Markup (n.Submit (record { route = route; args = with_unit unit (take k xs) }) label ∷ [])) s t r)
  still_does sql (op.Ask how site) h xs s t r = absurd h
  still_does sql (op.Write update) h xs s t r = absurd h
  still_does sql (op.Next q) h xs s t r = absurd h
  still_does sql (op.GetCookie c) h xs s t r = absurd h
  still_does sql (op.SetCookie c) h xs s t r = absurd h

-- ---- from a state to itself

-- these two states, whatever they are
abbrev Here : State → State → State → State → Type 0
Here a b s t = (s ≡ a) × (t ≡ b)

abbrev HereEvents : State → State → List Event → List Event → Type 0
HereEvents a b e f = (e ≡ a.events) × (f ≡ b.events)

here_events : (a b s t : State) → Here a b s t → HereEvents a b s.events t.events
here_events a b s t r = (ap (λ (x : State). x.events) r.0, ap (λ (x : State). x.events) r.1)

-- What it comes to it comes to from every state, which it leaves as it was.
pub record Still {A : Type 0} (go : State → Outcome A) (s : State) (x : A) (t : State) : Type 0 where
  pub same : t ≡ s
  pub elsewhere : (u : State) → go u ≡ Done x u

still_of : {A : Type 0} (o p : Outcome A) (a b : State) (x : A) (t : State) → Both (Here a b) (HereEvents a b) o p → o ≡ Done x t → (t ≡ a) × (p ≡ Done x b)
still_of o p a b x t (both_done y s u r) e = done_of e
  where
    first : Done y s ≡ Done x t → s ≡ a → t ≡ a
    first e r = cc

    second : Done y s ≡ Done x t → u ≡ b → Done y u ≡ Done x b
    second e r = cc

    done_of : Done y s ≡ Done x t → (t ≡ a) × (Done y u ≡ Done x b)
    done_of e = (first e r.0, second e r.1)
still_of o p a b x t (both_error body e' f r) e = cc
still_of o p a b x t (both_spent e' f r) e = cc
still_of o p a b x t both_stuck e = cc

pub is_still : {A : Type 0} (go : State → Outcome A)
    → ((a b : State) → Both (Here a b) (HereEvents a b) (go a) (go b)) → (s : State) (x : A) (t : State) → go s ≡ Done x t → Still go s x t
is_still go h s x t e = record {
  same = (still_of (go s) (go s) s s x t (h s s) e).0;
  elsewhere = λ u. (still_of (go s) (go u) s u x t (h s u) e).1;
}

pub op_still : (sql : Sql) (o : Op) → IsStill o → (xs : List Value) (s : State) (x : Value) (t : State) → does sql o xs s ≡ Done x t
    → Still (does sql o xs) s x t
op_still sql o h xs = is_still (does sql o xs) (λ a b. still_does (Here a b) (HereEvents a b) (here_events a b) sql o h xs a b (refl, refl))

pub join_still : (xs : List Value) (s : State) (x : Value) (t : State) → joined xs s ≡ Done x t → Still (joined xs) s x t
join_still xs = is_still (joined xs) (λ a b. still_joined (Here a b) (HereEvents a b) (here_events a b) xs a b (refl, refl))

pub answer_still : (how : AnswerForm) (rows : List Value) (s : State) (x : Value) (t : State) → answered how rows s ≡ Done x t → Still (answered how rows) s x t
answer_still how rows = is_still (answered how rows) (λ a b. still_answered (Here a b) (HereEvents a b) (here_events a b) how rows a b (refl, refl))
