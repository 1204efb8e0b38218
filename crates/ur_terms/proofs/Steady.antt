-- Operations on related states do the same.
use Rattle.std.proofs.Common.{◌≡◌, ℕ, ◌+◌, ◌-◌, ℤ, pos, ◌+ℤ◌, List, [], ◌∷◌, ◌++◌, length, take, drop, Some, if◌then◌else◌, ap, subst}
use Rattle.std.specs.Prelude.{nat_le, codes, slice_get, slice_set, int_rem}
use Rattle.std.specs.Int.{w64, int_wrapping_div}
use Rattle.std.specs.Ordering.{int_eq}
use Rattle.ur_values.specs.declared.value.Value.{Value}
use Rattle.ur_values.specs.declared.value.Value.TheVariants as v
use Rattle.ur_values.specs.declared.value.Node.TheVariants as n
use Rattle.ur_values.specs.Event.{Event, Ask, Write}
use Rattle.ur_values.specs.Store.{Store}
use Rattle.ur_values.specs.Size.{is_small}
use Rattle.ur_values.specs.Sql.{Sql, Changed, After, DuplicateKey, TableFull}
use Rattle.ur_terms.specs.declared.term.AnswerForm.{AnswerForm}
use Rattle.ur_terms.specs.declared.term.AnswerForm.TheVariants as form
use Rattle.ur_terms.specs.declared.term.Op.{Op}
use Rattle.ur_terms.specs.declared.term.Op.TheVariants as op
use Rattle.ur_terms.specs.State.{State, Outcome, Done, Spent, charge, note, built, error_text, with_cookie}
use Rattle.ur_terms.specs.Values.{as_int, as_bool, as_text, as_fields, as_items, all_nodes, shown, fields_of, field_at, fields_together}
use Rattle.ur_terms.specs.Ops.{given, does, no_arg, one_arg, two_args, two_ints, divided, optional_text, with_unit, answered, ask, changed, write, next}
use Rattle.ur_terms.specs.Run.{joined}
use Rattle.ur_terms.proofs.Alike.{Both, both_done, both_error, both_spent, both_stuck, both_given, both_if}

-- States that are related have the same store, cookies and units, and stay related where both are changed alike.
pub record Steady (R : State → State → Type 0) (E : List Event → List Event → Type 0) : Type 0 where
  pub store : (s t : State) → R s t → s.store ≡ t.store
  pub carried : (s t : State) → R s t → s.carried ≡ t.carried
  pub sent : (s t : State) → R s t → s.sent ≡ t.sent
  pub units : (s t : State) → R s t → s.units ≡ t.units
  pub events : (s t : State) → R s t → E s.events t.events
  pub noted : (e : Event) (s t : State) → R s t → R (note e s) (note e t)
  pub charged : (k : ℕ) (s t : State) → R s t → R (record s { units = s.units - k }) (record t { units = t.units - k })
  pub stored : (x : Store) (s t : State) → R s t → R (record s { store = x }) (record t { store = x })
  pub cookied : (xs : List (ℕ × Value)) (s t : State) → R s t → R (record s { sent = xs }) (record t { sent = xs })

-- what a query with these rows comes to
abbrev pub asked_rows : AnswerForm → ℕ → List Value → List Value → State → Outcome Value
asked_rows how site key rows s = charge (1 + length rows) (note (Ask site key rows) s) (answered how rows)

module _ (R : State → State → Type 0) (E : List Event → List Event → Type 0) where
  pub both_no_arg : (xs : List Value) (o p : Outcome Value) → Both R E o p → Both R E (no_arg xs o) (no_arg xs p)
  both_no_arg [] o p h = h
  both_no_arg (x ∷ xs) o p h = both_stuck

  pub both_one_arg : (xs : List Value) (go come : Value → Outcome Value) → ((x : Value) → Both R E (go x) (come x))
      → Both R E (one_arg xs go) (one_arg xs come)
  both_one_arg [] go come h = both_stuck
  both_one_arg (x ∷ []) go come h = h x
  both_one_arg (x ∷ y ∷ rest) go come h = both_stuck

  pub both_two_args : (xs : List Value) (go come : Value → Value → Outcome Value) → ((x y : Value) → Both R E (go x y) (come x y))
      → Both R E (two_args xs go) (two_args xs come)
  both_two_args [] go come h = both_stuck
  both_two_args (x ∷ []) go come h = both_stuck
  both_two_args (x ∷ y ∷ []) go come h = h x y
  both_two_args (x ∷ y ∷ z ∷ rest) go come h = both_stuck

  pub both_two_ints : (xs : List Value) (go come : ℤ → ℤ → Outcome Value) → ((i j : ℤ) → Both R E (go i j) (come i j))
      → Both R E (two_ints xs go) (two_ints xs come)
  both_two_ints xs go come h = both_two_args xs _ _ (λ a b. both_given R E (as_int a) _ _ (λ i. both_given R E (as_int b) _ _ (λ j. h i j)))

  module _ (st : Steady R E) where
    pub both_charge : {A : Type 0} (k : ℕ) (s t : State) (go come : State → Outcome A) → R s t
        → ((s t : State) → R s t → Both R E (go s) (come t)) → Both R E (charge k s go) (charge k t come)
    both_charge k s t go come r h =
        subst (λ b. Both R E (if nat_le k s.units then go (record s { units = s.units - k }) else Spent s.events) (if b then come (record t { units = t.units - k }) else Spent t.events))
        (ap (nat_le k) (st.units s t r))
        (both_if R E (nat_le k s.units) _ _ _ _ (h _ _ (st.charged k s t r)) (both_spent _ _ (st.events s t r)))

    pub both_built : (x : Value) (s t : State) → R s t → Both R E (built x s) (built x t)
    both_built x s t r = both_if R E (is_small x) _ _ _ _ (both_done x s t r) (both_spent _ _ (st.events s t r))

    pub both_text : {A : Type 0} (text : List ℕ) (s t : State) → R s t → Both R E (error_text {A = A} text s) (error_text text t)
    both_text text s t r = both_error _ _ _ (st.events s t r)

    pub both_divided : (f : ℤ → ℤ → ℤ) (a b : ℤ) (s t : State) → R s t → Both R E (divided f a b s) (divided f a b t)
    both_divided f a b s t r = both_if R E (int_eq b (pos 0)) _ _ _ _ (both_text (codes "division by zero") s t r) (both_done _ s t r)

    pub both_answered : (how : AnswerForm) (rows : List Value) (s t : State) → R s t → Both R E (answered how rows s) (answered how rows t)
    both_answered form.All rows s t r = both_built (v.Many rows) s t r
    both_answered form.One [] s t r = both_text _ s t r
    both_answered form.One (row ∷ []) s t r = both_built row s t r
    both_answered form.One (row ∷ other ∷ rest) s t r = both_text _ s t r
    both_answered form.OneOrNone [] s t r = both_done _ s t r
    both_answered form.OneOrNone (row ∷ []) s t r = both_built (v.Present row) s t r
    both_answered form.OneOrNone (row ∷ other ∷ rest) s t r = both_text _ s t r

    pub at_store : {A : Type 0} (go : Store → State → Outcome A) (s t : State) → R s t → Both R E (go s.store s) (go s.store t)
        → Both R E (go s.store s) (go t.store t)
    at_store go s t r = subst (λ x. Both R E (go s.store s) (go x t)) (st.store s t r)

    pub both_asked : (how : AnswerForm) (site : ℕ) (key rows : List Value) (s t : State) → R s t
        → Both R E (asked_rows how site key rows s) (asked_rows how site key rows t)
    both_asked how site key rows s t r =
        both_charge (1 + length rows) (note (Ask site key rows) s) (note (Ask site key rows) t) (answered how rows) (answered how rows)
        (st.noted (Ask site key rows) s t r) (both_answered how rows)

    pub both_ask : (sql : Sql) (how : AnswerForm) (site : ℕ) (key : List Value) (s t : State) → R s t
        → Both R E (ask sql how site key s) (ask sql how site key t)
    both_ask sql how site key s t r =
        at_store (λ x s. asked_rows how site key (sql.answer site key x) s) s t r (both_asked how site key (sql.answer site key s.store) s t r)

    pub both_changed : (table : List ℕ) (c : Changed Store) (s t : State) → R s t → Both R E (changed table c s) (changed table c t)
    both_changed table (After store) s t r = both_done _ _ _ (st.stored store s t r)
    both_changed table (DuplicateKey k) s t r = both_text _ s t r
    both_changed table TableFull s t r = both_text _ s t r

    pub both_write : (sql : Sql) (update : ℕ) (args : List Value) (s t : State) → R s t
        → Both R E (write sql update args s) (write sql update args t)
    both_write sql update args s t r = both_charge 1 s t _ _ r (λ s t r.
        at_store (λ x s. changed (sql.table update) (sql.change update args x) s) (note (Write update args) s) (note (Write update args) t) (st.noted _ s t r)
        (both_changed _ _ _ _ (st.noted _ s t r)))

    pub both_next : (q : ℕ) (s t : State) → R s t → Both R E (next q s) (next q t)
    both_next q s t r = both_charge 1 s t _ _ r (λ s t r.
        at_store (λ x s. given (slice_get x.sequences q) (λ n. Done (v.Int n) (record s { store = record x { sequences = slice_set x.sequences q (n +ℤ pos 1) } }))) s t r
        (both_given R E (slice_get s.store.sequences q) _ _ (λ n. both_done _ _ _ (st.stored _ s t r))))

    pub both_joined : (xs : List Value) (s t : State) → R s t → Both R E (joined xs s) (joined xs t)
    both_joined xs s t r = both_given R E (all_nodes xs) _ _ (λ nodes. both_built (v.Markup nodes) s t r)

    pub both_does : (sql : Sql) (o : Op) (xs : List Value) (s t : State) → R s t → Both R E (does sql o xs s) (does sql o xs t)
    both_does sql op.Add xs s t r = both_two_ints xs _ _ (λ a b. both_done _ s t r)
    both_does sql op.Sub xs s t r = both_two_ints xs _ _ (λ a b. both_done _ s t r)
    both_does sql op.Mul xs s t r = both_two_ints xs _ _ (λ a b. both_done _ s t r)
    both_does sql op.Div xs s t r = both_two_ints xs _ _ (λ a b. both_divided (int_wrapping_div w64) a b s t r)
    both_does sql op.Rem xs s t r = both_two_ints xs _ _ (λ a b. both_divided int_rem a b s t r)
    both_does sql op.Neg xs s t r = both_one_arg xs _ _ (λ x. both_given R E (as_int x) _ _ (λ a. both_done _ s t r))
    both_does sql op.Append xs s t r = both_two_args xs _ _ (λ a b. both_given R E (as_text a) _ _ (λ x. both_given R E (as_text b) _ _ (λ y. both_built (v.Str (x ++ y)) s t r)))
    both_does sql op.Not xs s t r = both_one_arg xs _ _ (λ x. both_given R E (as_bool x) _ _ (λ a. both_done _ s t r))
    both_does sql op.Equal xs s t r = both_two_args xs _ _ (λ a b. both_done _ s t r)
    both_does sql op.Unequal xs s t r = both_two_args xs _ _ (λ a b. both_done _ s t r)
    both_does sql op.Less xs s t r = both_two_args xs _ _ (λ a b. both_done _ s t r)
    both_does sql op.LessEqual xs s t r = both_two_args xs _ _ (λ a b. both_done _ s t r)
    both_does sql op.Greater xs s t r = both_two_args xs _ _ (λ a b. both_done _ s t r)
    both_does sql op.GreaterEqual xs s t r = both_two_args xs _ _ (λ a b. both_done _ s t r)
    both_does sql op.Show xs s t r = both_one_arg xs _ _ (λ x. both_given R E (shown x) _ _ (λ a. both_built (v.Str a) s t r))
    both_does sql (op.Record names) xs s t r = both_given R E (fields_of names xs) _ _ (λ fs. both_built (v.Row fs) s t r)
    both_does sql (op.Project name) xs s t r = both_one_arg xs _ _ (λ x. both_given R E (as_fields x) _ _ (λ fs. both_given R E (field_at name fs) _ _ (λ y. both_done _ s t r)))
    both_does sql op.Join xs s t r = both_two_args xs _ _ (λ a b. both_given R E (as_fields a) _ _ (λ fs. both_given R E (as_fields b) _ _ (λ gs. both_built (v.Row (fields_together fs gs)) s t r)))
    both_does sql (op.Cut name) xs s t r = both_one_arg xs _ _ (λ x. both_given R E (as_fields x) _ _ (λ fs. both_done _ s t r))
    both_does sql (op.Absent of) xs s t r = both_no_arg xs _ _ (both_done _ s t r)
    both_does sql op.Present xs s t r = both_one_arg xs _ _ (λ x. both_built (v.Present x) s t r)
    both_does sql (op.Empty of) xs s t r = both_no_arg xs _ _ (both_done _ s t r)
    both_does sql op.Cons xs s t r = both_two_args xs _ _ (λ a b. both_given R E (as_items b) _ _ (λ items. both_built (v.Many (a ∷ items)) s t r))
    both_does sql (op.Tagged c) [] s t r = both_done _ s t r
    both_does sql (op.Tagged c) (x ∷ xs) s t r = both_one_arg (x ∷ xs) _ _ (λ y. both_built (v.Tagged c (Some y)) s t r)
    both_does sql (op.Fail of) xs s t r = both_one_arg xs _ _ (λ x. both_error x _ _ (st.events s t r))
    both_does sql (op.Markup of) xs s t r = both_given R E (all_nodes xs) _ _ (λ nodes. both_built (v.Markup nodes) s t r)
    both_does sql (op.Text text) xs s t r = both_no_arg xs _ _ (both_built (v.Markup (n.Text text ∷ [])) s t r)
    both_does sql op.Shown xs s t r = both_one_arg xs _ _ (λ x. both_given R E (shown x) _ _ (λ a. both_built (v.Markup (n.Text a ∷ [])) s t r))
    both_does sql (op.Element tag) xs s t r = both_given R E (all_nodes xs) _ _ (λ kids. both_built (v.Markup (n.Element tag kids ∷ [])) s t r)
    both_does sql (op.Link route k) xs s t r = both_given R E (all_nodes (drop k xs)) _ _ (λ kids. both_built (v.Markup (n.Link (record { route = route; args = take k xs }) kids ∷ [])) s t r)
    both_does sql (op.Input kind name text) xs s t r = both_given R E (optional_text xs) _ _ (λ value. both_built (v.Markup (n.Field kind text value ∷ [])) s t r)
    both_does sql (op.Submit route k unit) xs s t r = both_given R E (optional_text (drop k xs)) _ _ (λ label. both_built (v.Markup (n.Submit (record { route = route; args = with_unit unit (take k xs) }) label ∷ [])) s t r)
    both_does sql (op.Ask how site) xs s t r = both_ask sql how site xs s t r
    both_does sql (op.Write update) xs s t r = both_write sql update xs s t r
    both_does sql (op.Next q) xs s t r = both_no_arg xs _ _ (both_next q s t r)
    both_does sql (op.GetCookie c) xs s t r = both_no_arg xs _ _
        (subst (λ x. Both R E (given (slice_get s.carried c) (λ x. Done x s)) (given (slice_get x c) (λ x. Done x t))) (st.carried s t r)
        (both_given R E (slice_get s.carried c) _ _ (λ x. both_done x s t r)))
    both_does sql (op.SetCookie c) xs s t r = both_one_arg xs _ _ (λ x.
        both_done _ _ _ (subst (λ ys. R (record s { sent = with_cookie c x s.sent }) (record t { sent = with_cookie c x ys })) (st.sent s t r) (st.cookied _ s t r)))
