-- The key on which rows agree after a change of rows of which no two agree on a key.
use Rattle.std.proofs.Common.{◌≡◌, ℕ, ◌+◌, ◌<◌, ◌≤◌, Bool, true, false, cond, not, ◌||◌, ◌==◌, List, [], ◌∷◌, ◌++◌, map, filter, find, length, get_or, Option, Some, None, position, option_map, All, refl, sym, ap, ap₂, subst, ◌∙◌, ⊎_elim, arith}
use Rattle.std.specs.Prelude.{IsNone, nat_lt, if◌then◌else◌}
use Rattle.std.specs.List.{list_any, position_or_len}
use Rattle.std.proofs.lemmas.Bool.{cases_Bool}
use Rattle.std.proofs.lemmas.Bool.Decides.{nat_tests}
use Rattle.std.proofs.lemmas.List.{map_push, get_or_past}
use Rattle.std.proofs.lemmas.List.Elements.{All-cons, All-head, All-tail}
use Rattle.std.proofs.lemmas.List.Sums.{fails_before_first}
use Rattle.ur_values.specs.declared.schema.Numbered.{Numbered}
use Rattle.ur_values.specs.declared.value.Value.{Value}
use Rattle.ur_values.specs.declared.value.Value.TheVariants as v
use Rattle.ur_values.specs.Keys.{key_of, is_taken, repeats, repeated_key, taken_key}
use Rattle.ur_values.specs.Numbered.{HaveRisingNumbers}
use Rattle.ur_values.specs.Order.{values_eq}
use Rattle.ur_values.specs.Store.{Row, rows_of}
use Rattle.ur_sql.specs.declared.scalar.Scalar.{Scalar}
use Rattle.ur_sql.specs.declared.change.Action.{Action}
use Rattle.ur_sql.specs.declared.change.Action.TheVariants as action
use Rattle.ur_sql.specs.declared.change.RowChange.{RowChange}
use Rattle.ur_sql.specs.Change.{assigned, chosen, inserted_row, new_value, rows_after, unless_repeated, updated_row}
use Rattle.ur_sql.specs.Merged.{merged}
use Rattle.ur_sql.specs.NewKeys.{is_set, new_repeat}
use Rattle.ur_sql.specs.Plan.{OnChanges, planned_as, row_changes}
use Rattle.ur_sql.proofs.Makes.{merged_after}
use Rattle.ur_sql.proofs.NewRows.{updated_cell, length-updated}

-- ---- tests

neither : (a b : Bool) → (a || b) ≡ false → (a ≡ false) × (b ≡ false)
neither true b e = cc
neither false b e = (refl, e)

swapped : (a b c d : Bool) → ((a || b) || (c || d)) ≡ ((a || c) || (b || d))
swapped true b c d = refl
swapped false true true d = refl
swapped false true false d = refl
swapped false false c d = refl

or_false : (a : Bool) → (a || false) ≡ a
or_false true = refl
or_false false = refl

any_append : {X : Type 0} (p : X → Bool) (xs : List X) (y : X) → list_any p (xs ++ y ∷ []) ≡ (list_any p xs || p y)
any_append p [] y = or_false (p y)
any_append p (x ∷ xs) y = ap (λ b. p x || b) (any_append p xs y) ∙ sym (assoc (p x) (list_any p xs) (p y))
  where
    assoc : (a b c : Bool) → ((a || b) || c) ≡ (a || (b || c))
    assoc true b c = refl
    assoc false b c = refl

any_map : {X Y : Type 0} (p : Y → Bool) (f : X → Y) (xs : List X) → list_any p (map f xs) ≡ list_any (λ x. p (f x)) xs
any_map p f [] = refl
any_map p f (x ∷ xs) = ap (λ b. p (f x) || b) (any_map p f xs)

any_filter : {X : Type 0} (p q : X → Bool) (xs : List X) → list_any p xs ≡ false → list_any p (filter q xs) ≡ false
any_filter p q [] h = refl
any_filter {X} p q (x ∷ xs) h = let both = neither (p x) (list_any p xs) h in go (q x) both.0 (any_filter p q xs both.1)
  where
    go : (b : Bool) → p x ≡ false → list_any p (filter q xs) ≡ false → list_any p (cond b (x ∷ filter q xs) (filter q xs)) ≡ false
    go true e f = ap (λ a. a || list_any p (filter q xs)) e ∙ f
    go false e f = f

any_at : {X : Type 0} (p : X → Bool) (xs : List X) → list_any p xs ≡ false → All (λ x. p x ≡ false) xs
any_at p [] h = λ i d small. absurd (omega arith)
any_at {X} p (x ∷ xs) h = let both = neither (p x) (list_any p xs) h in go both.0 (any_at p xs both.1)
  where
    go : p x ≡ false → All (λ x. p x ≡ false) xs → All (λ x. p x ≡ false) (x ∷ xs)
    go e rest = All-cons (λ x. p x ≡ false) x xs e rest

-- ---- places

prefix_same : {X : Type 0} (p q : X → Bool) (xs : List X) → All (λ x. p x ≡ q x) xs → position_or_len p xs ≡ position_or_len q xs
prefix_same p q [] h = refl
prefix_same p q (x ∷ xs) h = ap₂ (λ b n. cond (not b) (1 + n) 0) (All-head (λ x. p x ≡ q x) x xs h) (prefix_same p q xs (All-tail (λ x. p x ≡ q x) x xs h))

pub position_same : {X : Type 0} (p q : X → Bool) (xs : List X) → All (λ x. p x ≡ q x) xs → position p xs ≡ position q xs
position_same p q xs h = ap (λ n. cond (nat_lt n (length xs)) (Some n) None) (prefix_same p q xs h)

pub nowhere : {X : Type 0} (p : X → Bool) (xs : List X) → IsNone (position p xs) → All (λ x. p x ≡ false) xs
nowhere p xs h = λ k d small. fails_before_first p xs k d (omega (arith, small, go (nat_lt (position_or_len p xs) (length xs)) refl h))
  where
    go : (b : Bool) → nat_lt (position_or_len p xs) (length xs) ≡ b → IsNone (cond b (Some (position_or_len p xs)) None) → length xs ≤ position_or_len p xs
    go true e f = cc
    go false e f = grind (arith, nat_tests)

all_prefix : {X : Type 0} (xs : List X) → position_or_len (λ x. false) xs ≡ length xs
all_prefix [] = refl
all_prefix (x ∷ xs) = let rest = all_prefix xs in omega arith

pub none_at : {X : Type 0} (p : X → Bool) (xs : List X) → All (λ x. p x ≡ false) xs → position p xs ≡ None
none_at p xs h =
    let not_less : nat_lt (position_or_len (λ x. false) xs) (length xs) ≡ false = let e = all_prefix xs in grind (arith, nat_tests) in
    position_same p (λ x. false) xs h ∙ ap (λ b. cond b (Some (position_or_len (λ x. false) xs)) None) not_less

-- ---- a row more, and fewer rows

repeats_push : (ks : List (List Value)) (k : List Value) → repeats (ks ++ k ∷ []) ≡ (repeats ks || list_any (λ x. values_eq x k) ks)
repeats_push [] k = refl
repeats_push (x ∷ ks) k =
    ap₂ (λ a b. a || b) (any_append (values_eq x) ks k) (repeats_push ks k)
    ∙ swapped (list_any (values_eq x) ks) (values_eq x k) (repeats ks) (list_any (λ y. values_eq y k) ks)

pub taken_after : (key : List ℕ) (rows : List Row) (new : Row) → repeats (map (key_of key) rows) ≡ false
    → repeats (map (key_of key) (rows ++ new ∷ [])) ≡ is_taken rows new key
taken_after key rows new apart =
    ap repeats (map_push (key_of key) rows new) ∙ repeats_push (map (key_of key) rows) (key_of key new)
    ∙ ap (λ b. b || list_any (λ x. values_eq x (key_of key new)) (map (key_of key) rows)) apart
    ∙ any_map (λ x. values_eq x (key_of key new)) (key_of key) rows

filtered_any : (k : List Value) (f : Row → List Value) (q : Row → Bool) (rows : List Row) → list_any (values_eq k) (map f rows) ≡ false
    → list_any (values_eq k) (map f (filter q rows)) ≡ false
filtered_any k f q rows h = any_map (values_eq k) f (filter q rows) ∙ any_filter (λ r. values_eq k (f r)) q rows (sym (any_map (values_eq k) f rows) ∙ h)

pub apart_filtered : (f : Row → List Value) (q : Row → Bool) (rows : List Row) → repeats (map f rows) ≡ false → repeats (map f (filter q rows)) ≡ false
apart_filtered f q [] h = refl
apart_filtered f q (r ∷ rows) h =
    let both = neither (list_any (values_eq (f r)) (map f rows)) (repeats (map f rows)) h in go (q r) (filtered_any (f r) f q rows both.0)
    (apart_filtered f q rows both.1)
  where
    go : (b : Bool) → list_any (values_eq (f r)) (map f (filter q rows)) ≡ false → repeats (map f (filter q rows)) ≡ false
        → repeats (map f (cond b (r ∷ filter q rows) (filter q rows))) ≡ false
    go true e g = ap (λ a. a || repeats (map f (filter q rows))) e ∙ g
    go false e g = g

-- ---- rows of which no column of a key is set

not_assigned : (sets : List (ℕ × Scalar)) (c : ℕ) → is_set sets c ≡ false → assigned sets c ≡ None
not_assigned sets c h = ap (option_map (λ set. set.1)) (go sets h)
  where
    go : (sets : List (ℕ × Scalar)) → list_any (λ set. set.0 == c) sets ≡ false → find (λ set. set.0 == c) sets ≡ None
    go [] h = refl
    go (set ∷ sets) h =
        let both = neither (set.0 == c) (list_any (λ set. set.0 == c) sets) h in
        ap (λ b. cond b (Some set) (find (λ (set : ℕ × Scalar). set.0 == c) sets)) both.0 ∙ go sets both.1

cell_kept : (args : List Value) (sets : List (ℕ × Scalar)) (row : Row) (c : ℕ) → is_set sets c ≡ false
    → get_or (updated_row args sets row) c v.Absent ≡ get_or row c v.Absent
cell_kept args sets row c h =
    ⊎_elim
    (λ e. updated_cell args sets row c (grind (arith, nat_tests)) ∙ ap (λ o. new_value args (row ∷ []) o (get_or row c v.Absent)) (not_assigned sets c h))
    (λ e. get_or_past (updated_row args sets row) c v.Absent (let long = length-updated args sets row in grind (arith, nat_tests))
    ∙ sym (get_or_past row c v.Absent (grind (arith, nat_tests))))
    (cases_Bool (nat_lt c (length row)))

key_kept : (args : List Value) (sets : List (ℕ × Scalar)) (row : Row) (key : List ℕ) → list_any (is_set sets) key ≡ false
    → key_of key (updated_row args sets row) ≡ key_of key row
key_kept args sets row [] h = refl
key_kept args sets row (c ∷ key) h =
    let both = neither (is_set sets c) (list_any (is_set sets) key) h in ap₂ (λ x xs. x ∷ xs) (cell_kept args sets row c both.0)
    (key_kept args sets row key both.1)

pub keys_kept : (args : List Value) (sets : List (ℕ × Scalar)) (condition : Option Scalar) (key : List ℕ) → list_any (is_set sets) key ≡ false
    → (rows : List Row)
    → map (key_of key) (rows_after (action.Update sets condition) args rows) ≡ map (key_of key) rows
keys_kept args sets condition key h [] = refl
keys_kept args sets condition key h (row ∷ rows) = ap₂ (λ x xs. x ∷ xs) (go (chosen args condition row)) (keys_kept args sets condition key h rows)
  where
    go : (b : Bool) → key_of key (if b then updated_row args sets row else row) ≡ key_of key row
    go true = key_kept args sets row key h
    go false = refl

-- ---- a change

module _ (args : List Value) (keys : List (List ℕ)) (rows : List Numbered) (numbers : HaveRisingNumbers rows)
    (sound : IsNone (repeated_key keys (rows_of rows))) where
  apart : All (λ key. repeats (map (key_of key) (rows_of rows)) ≡ false) keys
  apart = nowhere (λ key. repeats (map (key_of key) (rows_of rows))) keys sound

  -- the key that repeats after the change is found so
  pub repeat_after : (what : Action) → new_repeat what keys rows (row_changes what args rows) ≡ repeated_key keys (rows_after what args (rows_of rows))
  repeat_after (action.Insert sets) = sym (position_same (λ key. repeats (map (key_of key) (rows_after (action.Insert sets) args (rows_of rows))))
      (is_taken (rows_of rows) (inserted_row args sets)) keys
      (λ i d small. taken_after (get_or keys i d) (rows_of rows) (inserted_row args sets) (apart i d small)))
  repeat_after (action.Update sets condition) = go (list_any (list_any (is_set sets)) keys) refl
    where
      go : (b : Bool) → list_any (list_any (is_set sets)) keys ≡ b
          → (if b then repeated_key keys (merged rows (row_changes (action.Update sets condition) args rows)) else None) ≡ repeated_key keys
          (rows_after (action.Update sets condition) args (rows_of rows))
      go true e = ap (repeated_key keys) (merged_after (action.Update sets condition) args rows numbers)
      go false e =
          let unset = any_at (list_any (is_set sets)) keys e in
          sym (none_at (λ key. repeats (map (key_of key) (rows_after (action.Update sets condition) args (rows_of rows)))) keys
          (λ i d small. ap repeats (keys_kept args sets condition (get_or keys i d) (unset i d small) (rows_of rows)) ∙ apart i d small))
  repeat_after (action.Delete condition) = sym
      (none_at (λ key. repeats (map (key_of key) (rows_after (action.Delete condition) args (rows_of rows)))) keys
      (λ i d small. apart_filtered (key_of (get_or keys i d)) (λ row. not (chosen args condition row)) (rows_of rows) (apart i d small)))

  pub sound_repeat : (what : Action) (changes : List RowChange) (key : Option ℕ) → changes ≡ row_changes what args rows
      → key ≡ new_repeat what keys rows changes → key ≡ repeated_key keys (merged rows changes)
  sound_repeat what changes key made is =
      is ∙ ap (new_repeat what keys rows) made ∙ repeat_after what ∙ sym (ap (repeated_key keys) (ap (merged rows) made ∙ merged_after what args rows numbers))

-- what holds of changes holds of them planned
pub on_planned : (key : Option ℕ) (full : Bool) (changes : List RowChange) (P : List RowChange → Type 0) → P changes
    → OnChanges (planned_as (unless_repeated key full []) changes) P
on_planned (Some k) full changes P h = tt
on_planned None true changes P h = tt
on_planned None false changes P h = h
