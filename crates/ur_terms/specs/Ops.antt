-- What each operation does with evaluated arguments.
use Rattle.std.specs.Prelude.{ℕ, ◌+◌, ℤ, pos, ◌+ℤ◌, Bool, true, false, not, if◌then◌else◌, List, [], ◌∷◌, ◌++◌, length, take, drop, codes, Option, Some, None, slice_get, slice_set, int_rem}
use Rattle.std.specs.Int.{w64, int_wrapping_add, int_wrapping_sub, int_wrapping_mul, int_wrapping_div, int_wrapping_neg}
use Rattle.std.specs.Ordering.{int_eq, is_lt, is_le, is_gt, is_ge}
use Rattle.ur_base.specs.declared.names.Name.{Name}
use Rattle.ur_values.specs.declared.value.Value.{Value}
use Rattle.ur_values.specs.declared.value.Value.TheVariants as v
use Rattle.ur_values.specs.declared.value.Node.{Node}
use Rattle.ur_values.specs.declared.value.Node.TheVariants as n
use Rattle.ur_values.specs.Event.{Ask, Write}
use Rattle.ur_values.specs.Order.{value_cmp, value_eq}
use Rattle.ur_values.specs.Store.{Store}
use Rattle.ur_values.specs.Sql.{Sql, Changed, After, DuplicateKey, TableFull}
use Rattle.ur_terms.specs.declared.term.AnswerForm.{AnswerForm}
use Rattle.ur_terms.specs.declared.term.AnswerForm.TheVariants as form
use Rattle.ur_terms.specs.declared.term.Op.{Op}
use Rattle.ur_terms.specs.declared.term.Op.TheVariants as op
use Rattle.ur_terms.specs.State.{State, Outcome, Done, Error, Stuck, charge, built, note, error_text, with_cookie}
use Rattle.ur_values.specs.Values.{unit_value}
use Rattle.ur_terms.specs.Values.{as_int, as_bool, as_text, as_fields, as_items, all_nodes, shown, fields_together, field_at, without_field, fields_of}

-- ---- arguments

-- goes on with what is there
abbrev pub given : {A B : Type 0} → Option A → (A → Outcome B) → Outcome B
given None go = Stuck
given (Some x) go = go x

abbrev pub no_arg : List Value → Outcome Value → Outcome Value
no_arg [] o = o
no_arg (x ∷ xs) o = Stuck

abbrev pub one_arg : List Value → (Value → Outcome Value) → Outcome Value
one_arg (x ∷ []) go = go x
one_arg [] go = Stuck
one_arg (x ∷ y ∷ rest) go = Stuck

abbrev pub two_args : List Value → (Value → Value → Outcome Value) → Outcome Value
two_args (x ∷ y ∷ []) go = go x y
two_args [] go = Stuck
two_args (x ∷ []) go = Stuck
two_args (x ∷ y ∷ z ∷ rest) go = Stuck

abbrev pub two_ints : List Value → (ℤ → ℤ → Outcome Value) → Outcome Value
two_ints xs go = two_args xs (λ a b. given (as_int a) (λ i. given (as_int b) (λ j. go i j)))

-- ---- operations

-- int by int, a zero divisor being a program error
abbrev pub divided : (ℤ → ℤ → ℤ) → ℤ → ℤ → State → Outcome Value
divided f a b s = if int_eq b (pos 0) then error_text (codes "division by zero") s else Done (v.Int (f a b)) s

abbrev pub present_fields : Option (List (Name × Value)) → State → Outcome Value
present_fields fields s = given fields (λ fs. built (v.Row fs) s)

-- The value at the front of a list.
abbrev pub cons_value : Value → Value → State → Outcome Value
cons_value x xs s = given (as_items xs) (λ items. built (v.Many (x ∷ items)) s)

abbrev pub markup : List Node → State → Outcome Value
markup nodes s = built (v.Markup nodes) s

abbrev pub with_unit : Bool → List Value → List Value
with_unit true args = args ++ unit_value ∷ []
with_unit false args = args

-- the text of an optional argument
abbrev pub optional_text : List Value → Option (Option (List ℕ))
optional_text [] = Some None
optional_text (v.Str t ∷ []) = Some (Some t)
optional_text _ = None

-- ---- the store

-- The rows, the only row, or at most one row. A query error is seen before the size of what is built is tested.
abbrev pub answered : AnswerForm → List Value → State → Outcome Value
answered form.All rows s = built (v.Many rows) s
answered form.One (row ∷ []) s = built row s
answered form.One [] s = error_text (codes "expected one row") s
answered form.One (row ∷ other ∷ rest) s = error_text (codes "expected one row") s
answered form.OneOrNone [] s = Done v.Absent s
answered form.OneOrNone (row ∷ []) s = built (v.Present row) s
answered form.OneOrNone (row ∷ other ∷ rest) s = error_text (codes "expected one row") s

-- The event is noted; one unit and one for each row are charged; then the answer is built.
abbrev pub ask : Sql → AnswerForm → ℕ → List Value → State → Outcome Value
ask sql how site key s =
    let rows = sql.answer site key s.store in
    charge (1 + length rows) (note (Ask site key rows) s) (answered how rows)

abbrev pub changed : List ℕ → Changed Store → State → Outcome Value
changed table (After store) s = Done unit_value (record s { store = store })
changed table (DuplicateKey k) s = error_text (codes "duplicate key in " ++ table) s
changed table TableFull s = error_text (codes "table full: " ++ table) s

-- One unit is charged, the event is noted, and then the change is made.
abbrev pub write : Sql → ℕ → List Value → State → Outcome Value
write sql update args s =
    charge 1 s (λ t. let u = note (Write update args) t in changed (sql.table update) (sql.change update args u.store) u)

-- the sequence's number, which is raised
abbrev pub drawn : ℕ → State → ℤ → Outcome Value
drawn q s n = Done (v.Int n) (record s { store = record s.store { sequences = slice_set s.store.sequences q (n +ℤ pos 1) } })

-- One unit is charged; the sequence's number is given and raised.
abbrev pub next : ℕ → State → Outcome Value
next q s = charge 1 s (λ t. given (slice_get t.store.sequences q) (drawn q t))

-- ---- all of them

abbrev pub does : Sql → Op → List Value → State → Outcome Value
does sql op.Add xs s = two_ints xs (λ a b. Done (v.Int (int_wrapping_add w64 a b)) s)
does sql op.Sub xs s = two_ints xs (λ a b. Done (v.Int (int_wrapping_sub w64 a b)) s)
does sql op.Mul xs s = two_ints xs (λ a b. Done (v.Int (int_wrapping_mul w64 a b)) s)
does sql op.Div xs s = two_ints xs (λ a b. divided (int_wrapping_div w64) a b s)
does sql op.Rem xs s = two_ints xs (λ a b. divided int_rem a b s)
does sql op.Neg xs s = one_arg xs (λ x. given (as_int x) (λ a. Done (v.Int (int_wrapping_neg w64 a)) s))
does sql op.Append xs s = two_args xs (λ a b. given (as_text a) (λ t. given (as_text b) (λ u. built (v.Str (t ++ u)) s)))
does sql op.Not xs s = one_arg xs (λ x. given (as_bool x) (λ b. Done (v.Bool (not b)) s))
does sql op.Equal xs s = two_args xs (λ a b. Done (v.Bool (value_eq a b)) s)
does sql op.Unequal xs s = two_args xs (λ a b. Done (v.Bool (not (value_eq a b))) s)
does sql op.Less xs s = two_args xs (λ a b. Done (v.Bool (is_lt (value_cmp a b))) s)
does sql op.LessEqual xs s = two_args xs (λ a b. Done (v.Bool (is_le (value_cmp a b))) s)
does sql op.Greater xs s = two_args xs (λ a b. Done (v.Bool (is_gt (value_cmp a b))) s)
does sql op.GreaterEqual xs s = two_args xs (λ a b. Done (v.Bool (is_ge (value_cmp a b))) s)
does sql op.Show xs s = one_arg xs (λ x. given (shown x) (λ t. built (v.Str t) s))
does sql (op.Record names) xs s = present_fields (fields_of names xs) s
does sql (op.Project name) xs s = one_arg xs (λ x. given (as_fields x) (λ fs. given (field_at name fs) (λ y. Done y s)))
does sql op.Join xs s = two_args xs (λ a b. given (as_fields a) (λ fs. given (as_fields b) (λ gs. built (v.Row (fields_together fs gs)) s)))
does sql (op.Cut name) xs s = one_arg xs (λ x. given (as_fields x) (λ fs. Done (v.Row (without_field name fs)) s))
does sql (op.Absent t) xs s = no_arg xs (Done v.Absent s)
does sql op.Present xs s = one_arg xs (λ x. built (v.Present x) s)
does sql (op.Empty t) xs s = no_arg xs (Done (v.Many []) s)
does sql op.Cons xs s = two_args xs (λ a b. cons_value a b s)
does sql (op.Tagged c) [] s = Done (v.Tagged c None) s
does sql (op.Tagged c) (x ∷ xs) s = one_arg (x ∷ xs) (λ y. built (v.Tagged c (Some y)) s)
does sql (op.Fail t) xs s = one_arg xs (λ x. Error x s.events)
does sql (op.Markup t) xs s = given (all_nodes xs) (λ nodes. markup nodes s)
does sql (op.Text t) xs s = no_arg xs (markup (n.Text t ∷ []) s)
does sql op.Shown xs s = one_arg xs (λ x. given (shown x) (λ t. markup (n.Text t ∷ []) s))
does sql (op.Element tag) xs s = given (all_nodes xs) (λ kids. markup (n.Element tag kids ∷ []) s)
does sql (op.Link r k) xs s =
    given (all_nodes (drop k xs)) (λ kids. markup (n.Link (record { route = r; args = take k xs }) kids ∷ []) s)
does sql (op.Input kind name text) xs s = given (optional_text xs) (λ value. markup (n.Field kind text value ∷ []) s)
does sql (op.Submit r k unit) xs s =
    given (optional_text (drop k xs)) (λ label. markup (n.Submit (record { route = r; args = with_unit unit (take k xs) }) label ∷ []) s)
does sql (op.Ask how site) xs s = ask sql how site xs s
does sql (op.Write update) xs s = write sql update xs s
does sql (op.Next q) xs s = no_arg xs (next q s)
does sql (op.GetCookie c) xs s = no_arg xs (given (slice_get s.carried c) (λ x. Done x s))
does sql (op.SetCookie c) xs s = one_arg xs (λ x. Done unit_value (record s { sent = with_cookie c x s.sent }))
