-- What the two queries show of the rows.
use Rattle.std.proofs.Common.{◌≡◌, ◌⊎◌, inl, inr, ℕ, ℤ, pos, Bool, true, false, cond, ◌&&◌, if◌then◌else◌, List, [], ◌∷◌, ◌++◌, map, filter, drop, slice_get, flat_map, Option, Some, None, Ok, Err, Result, T, refl, sym, ap, subst, subst₂, ◌∙◌}
use Rattle.std.specs.declared.cmp.Ordering.{Ordering}
use Rattle.std.specs.declared.cmp.Ordering.TheVariants.{Less, Equal, Greater}
use Rattle.std.specs.Ordering.{int_cmp, int_eq, eq_by_cmp, is_eq, ordering_then}
use Rattle.std.specs.Cmp.{int_cmp_total, eq_by_cmp_equiv}
use Rattle.std.specs.List.{list_all}
use Rattle.std.specs.Option.{option_to_list}
use Rattle.std.specs.List.Sorted.{IsPermutation}
use Rattle.std.specs.FinMap.{find, is_sorted}
use Rattle.std.proofs.lemmas.List.Sorted.{IsPermutation-map, IsPermutation-sym, length_permutation}
use Rattle.sqlite.specs.declared.types.Value.{Value}
use Rattle.sqlite.specs.declared.types.Value.TheVariants.{Null, Int, Blob}
use Rattle.sqlite.specs.Order.{Row, column, bytes, value_cmp}
use Rattle.sqlite.specs.Ops.{unary, binary, is_true, from_truth}
use Rattle.sqlite_sql.specs.declared.ops.UnaryOp.TheVariants.{ToNumeric}
use Rattle.sqlite_sql.specs.declared.ops.BinaryOp.TheVariants.{Compare}
use Rattle.sqlite_sql.specs.declared.ops.CompareOp.TheVariants.{Eq}
use Rattle.sqlite.specs.Collation.TheVariants.{Binary}
use Rattle.sqlite.specs.Term.{Term, Env, eval_all, holds}
use Rattle.sqlite.specs.Query.{Query, IsAnswer, output, Output, page}
use Rattle.sqlite.specs.Program.{overlay}
use Rattle.sqlite.specs.Tree.{Trees}
use Rattle.sqlite_value.proofs.OrderLemmas.{value_cmp-Int}
use Rattle.sqlite_value.specs.declared.keys.Key.{Key}
use Rattle.sqlite.specs.State.{State, Shown}
use Rattle.sqlite.proofs.Callers.{reads_as, one_permutation}
use Rattle.ur_keeper_bodies.specs.Bodies.{Place, BodyMap, place_cmp, body_at, bodies_of}
use Rattle.ur_keeper_bodies.proofs.Tables.{same-bodies}
use Rattle.ur_sqlkeeper.specs.Table.{ur_schema, read_text, one_text}
use Rattle.ur_sqlkeeper.specs.Rows.{Kept, stored, kept_in, bodies_kept, map_in, is_of, is_at, as_entry, AreKept, ShowsTable, ShowsPlace}
use Rattle.ur_sqlkeeper.specs.Entries.{Entry, entry_in, body_in}
use Rattle.ur_sqlkeeper.specs.Serving.{IsOurs}
use Rattle.ur_sqlkeeper.proofs.Texts.{ordered_query, in_table, in_place, read_shown, read_order, one_shown, read_is, one_is, read_plain, one_plain, read_here, one_here}
use Rattle.ur_sqlkeeper.proofs.Entries.{read-back, told, told-at, at}
use Rattle.ur_sqlkeeper.proofs.Orders.{found-alike}

-- ---- WHERE

is-same : (a b : ℤ) → is_true (binary (Compare Eq Binary) (Int a) (unary ToNumeric (Int b))) ≡ is_eq (int_cmp a b)
unfolding binary unary
is-same a b = ap (λ r. is_true (from_truth (Some (is_eq r)))) (value_cmp-Int a b) ∙ settled (is_eq (int_cmp a b))
  where
    settled : (c : Bool) → is_true (from_truth (Some c)) ≡ c
    settled true = refl
    settled false = refl

and-true : (b : Bool) → (b && true) ≡ b
and-true true = refl
and-true false = refl

turned : (a b : ℤ) → is_eq (int_cmp a b) ≡ is_eq (int_cmp b a)
turned a b = (eq_by_cmp_equiv int_cmp_total).symm a b

both-eq : (a b : Ordering) → (is_eq a && is_eq b) ≡ is_eq (ordering_then a b)
both-eq Less b = refl
both-eq Equal b = refl
both-eq Greater b = refl

pub of-table : (tab : ℤ) (more : Row) (k : Kept) → list_all (holds ((Int tab ∷ more) ∷ stored k ∷ [])) in_table ≡ is_of tab k
of-table tab more k = and-true _ ∙ is-same k.1.0.0 tab

pub of-place : (tab num : ℤ) (more : Row) (k : Kept) → list_all (holds ((Int tab ∷ Int num ∷ more) ∷ stored k ∷ [])) in_place ≡ is_at (tab, num) k
of-place tab num more k =
    ap (λ b. is_true (binary (Compare Eq Binary) (Int k.1.0.0) (unary ToNumeric (Int tab))) && b) (and-true (is_true (binary (Compare Eq Binary) (Int k.1.0.1) (unary ToNumeric (Int num)))))
    ∙ ap (λ b. b && is_true (binary (Compare Eq Binary) (Int k.1.0.1) (unary ToNumeric (Int num)))) (is-same k.1.0.0 tab ∙ turned k.1.0.0 tab)
    ∙ ap (λ b. is_eq (int_cmp tab k.1.0.0) && b) (is-same k.1.0.1 num ∙ turned k.1.0.1 num)
    ∙ both-eq (int_cmp tab k.1.0.0) (int_cmp num k.1.0.1)

-- ---- the answer

pub nothing-dropped : {A : Type 0} (xs : List A) → drop 0 xs ≡ xs
nothing-dropped [] = refl
nothing-dropped (x ∷ xs) = refl

fused : {A B C : Type 0} (f : A → B) (g : B → C) (xs : List A) → map g (map f xs) ≡ map (λ x. g (f x)) xs
fused f g [] = refl
fused f g (x ∷ xs) = ap (λ ys. g (f x) ∷ ys) (fused f g xs)

module _ (params : Row) (tests : List Term) (project : List Term) (order : List (Term × Key)) (test : Kept → Bool) (law : (k : Kept) → list_all (holds (params ∷ stored k ∷ [])) tests ≡ test k) where
  abbrev env : Kept → Env
  env k = params ∷ stored k ∷ []

  matched : (ks : List Kept) → flat_map (λ r. if list_all (holds (params ∷ r ∷ [])) tests then (params ∷ r ∷ []) ∷ [] else []) (map stored ks) ≡ map env (filter test ks)
  matched [] = refl
  matched (k ∷ ks) =
      ap (λ b. (if b then env k ∷ [] else []) ++ flat_map (λ r. if list_all (holds (params ∷ r ∷ [])) tests then (params ∷ r ∷ []) ∷ [] else []) (map stored ks)) (law k)
      ∙ ap (λ xs. (if test k then env k ∷ [] else []) ++ xs) (matched ks)
      ∙ joined (test k)
    where
      joined : (b : Bool) → (if b then env k ∷ [] else []) ++ map env (filter test ks) ≡ map env (cond b (k ∷ filter test ks) (filter test ks))
      joined true = refl
      joined false = refl

  -- an answer has what each row that passes shows, in some order
  pub answered : (db : Trees) (ks : List Kept) (rows : List Row) → db 0 ≡ map stored ks → IsAnswer (ordered_query tests project order) (overlay db []) params rows
      → IsPermutation (map (λ k. eval_all project (env k)) (filter test ks)) rows
  answered db ks rows has a =
      let q = ordered_query tests project order in
      let staged : a.staged ≡ map env (filter test ks) =
      a.grouped ∙ ap (λ all. flat_map (λ r. if list_all (holds (params ∷ r ∷ [])) tests then (params ∷ r ∷ []) ∷ [] else []) all) has ∙ matched ks in
      let kept : a.kept ≡ map (output q) (map env (filter test ks)) = a.distinct ∙ ap (map (output q)) staged in
      let shown : rows ≡ map (λ (o : Output). o.1) a.ordered = a.shown ∙ nothing-dropped _ in
      let each : map (λ (o : Output). o.1) a.kept ≡ map (λ k. eval_all project (env k)) (filter test ks) =
      ap (map (λ (o : Output). o.1)) (kept ∙ fused env (output q) (filter test ks)) ∙ fused (λ k. output q (env k)) (λ (o : Output). o.1) (filter test ks) in
      subst₂ IsPermutation each (sym shown) (IsPermutation-map (λ (o : Output). o.1) a.kept a.ordered a.same)

-- ---- the two queries

pub kept-again : (db : List Row) (h : AreKept db) → map kept_in db ≡ h.kept
kept-again db h = ap (map kept_in) h.are ∙ read-back h.kept

pub shows-table : (old new : State) (tab : ℤ) (rows : List Row) → IsOurs old.now → Shown read_text (Int tab ∷ []) old new rows → ShowsTable (old.now.trees 0) tab rows
shows-table old new tab rows ours h =
    let params = Int tab ∷ [] in
    let read = reads_as read_text params old new ur_schema ours.schema _ read_is read_plain read_here rows h in
    let all = answered params in_table read_shown read_order (is_of tab) (of-table tab []) old.now.trees ours.rows.kept rows ours.rows.are (read.answer Null) in
    subst (λ (ks : List Kept). IsPermutation (map (λ k. as_entry (k.1.0.1, k.1.1)) (filter (is_of tab) ks)) rows) (sym (kept-again _ ours.rows)) all

pub shows-place : (old new : State) (tab num : ℤ) (rows : List Row) → IsOurs old.now → Shown one_text (Int tab ∷ Int num ∷ []) old new rows → ShowsPlace (old.now.trees 0) (tab, num) rows
shows-place old new tab num rows ours h =
    let params = Int tab ∷ Int num ∷ [] in
    let read = reads_as one_text params old new ur_schema ours.schema _ one_is one_plain one_here rows h in
    let all = answered params in_place one_shown [] (is_at (tab, num)) (of-place tab num []) old.now.trees ours.rows.kept rows ours.rows.are (read.answer Null) in
    subst (λ (ks : List Kept). IsPermutation (map (λ k. Blob k.1.1 ∷ []) (filter (is_at (tab, num)) ks)) rows) (sym (kept-again _ ours.rows)) all

-- ---- what is read of them

table-at : (tab n : ℤ) (ks : List Kept) → at (tab, n) ks ≡ find int_cmp n (map (λ k. (k.1.0.1, k.1.1)) (filter (is_of tab) ks))
table-at tab n [] = refl
table-at tab n (k ∷ ks) =
    ap (λ b. cond b (Some k.1.1) (at (tab, n) ks)) (sym (both-eq (int_cmp tab k.1.0.0) (int_cmp n k.1.0.1)) ∙ ap (λ b. b && is_eq (int_cmp n k.1.0.1)) (turned tab k.1.0.0))
    ∙ ap (cond (is_of tab k && is_eq (int_cmp n k.1.0.1)) (Some k.1.1)) (table-at tab n ks)
    ∙ split (is_of tab k)
  where
    split : (b : Bool) → cond (b && is_eq (int_cmp n k.1.0.1)) (Some k.1.1) (find int_cmp n (map (λ k. (k.1.0.1, k.1.1)) (filter (is_of tab) ks)))
        ≡ find int_cmp n (map (λ k. (k.1.0.1, k.1.1)) (cond b (k ∷ filter (is_of tab) ks) (filter (is_of tab) ks)))
    split true = refl
    split false = refl

-- entries in order that the rows show are the bodies of the table
pub table-read : (rows : List Row) (tab : ℤ) (shown : List Row) (found : List Entry) → ShowsTable rows tab shown → found ≡ map entry_in shown → T (is_sorted int_cmp found) → found ≡ bodies_of (map_in rows) tab
table-read rows tab shown found h is rise =
    let ks = map kept_in rows in
    let entries = map (λ k. (k.1.0.1, k.1.1)) (filter (is_of tab) ks) in
    let same : IsPermutation entries found = subst₂ IsPermutation (fused (λ k. as_entry (k.1.0.1, k.1.1)) entry_in (filter (is_of tab) ks)) (sym is) (IsPermutation-map entry_in _ shown h) in
    sym (same-bodies (map_in rows) tab found rise (λ n. told-at ks tab n ∙ table-at tab n ks ∙ found-alike n entries found same rise))

first-at : (p : Place) (ks : List Kept) → at p ks ≡ slice_get (map (λ k. k.1.1) (filter (is_at p) ks)) 0
first-at p [] = refl
first-at p (k ∷ ks) = ap (cond (is_at p k) (Some k.1.1)) (first-at p ks) ∙ split (is_at p k)
  where
    split : (b : Bool) → cond b (Some k.1.1) (slice_get (map (λ k. k.1.1) (filter (is_at p) ks)) 0) ≡ slice_get (map (λ k. k.1.1) (cond b (k ∷ filter (is_at p) ks) (filter (is_at p) ks))) 0
    split true = refl
    split false = refl

-- at most one, so no order is left open
only-one : {A : Type 0} (xs : List A) (o : Option A) → IsPermutation xs (option_to_list o) → xs ≡ option_to_list o
only-one [] None h = refl
only-one (x ∷ xs) None h = absurd (let e = length_permutation (x ∷ xs) [] h in cc)
only-one xs (Some x) h = one_permutation x xs (IsPermutation-sym xs (x ∷ []) h)

-- the one body that the rows show, or none, is that of the place
pub place-read : (rows : List Row) (tab num : ℤ) (shown : List Row) (found : Option (List ℕ)) → ShowsPlace rows (tab, num) shown → option_to_list found ≡ map body_in shown → found ≡ body_at (map_in rows) tab num
place-read rows tab num shown found h is =
    let ks = map kept_in rows in
    let bodies = map (λ k. k.1.1) (filter (is_at (tab, num)) ks) in
    let same : IsPermutation bodies (option_to_list found) = subst₂ IsPermutation (fused (λ k. Blob k.1.1 ∷ []) body_in (filter (is_at (tab, num)) ks)) (sym is) (IsPermutation-map body_in _ shown h) in
    back found ∙ ap (λ (xs : List (List ℕ)). slice_get xs 0) (sym (only-one bodies found same)) ∙ sym (told-at ks tab num ∙ first-at (tab, num) ks)
  where
    back : (o : Option (List ℕ)) → o ≡ slice_get (option_to_list o) 0
    back None = refl
    back (Some x) = refl
