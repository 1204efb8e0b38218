-- What a change keeps of tables and sequences of a schema.
use Rattle.std.proofs.Common.{◌≡◌, ℕ, pos, ◌+ℤ◌, ◌≤ℤ◌, zero, suc, ◌+◌, ◌<◌, ◌≤◌, max, Bool, true, false, not, ◌==◌, cond, List, [], ◌∷◌, length, map}
use Rattle.std.proofs.Common.{filter, fold, get_or, set, Option, Some, None, IfSome, slice_get, All, refl, ap, ap₂, sym, subst, arith}
use Rattle.std.specs.List.{AllZip}
use Rattle.std.specs.List.Sorted.{IsStrictlyIncreasing}
use Rattle.std.proofs.lemmas.Int.{ints}
use Rattle.std.proofs.lemmas.Bool.{cond_both}
use Rattle.std.proofs.lemmas.Bool.Decides.{nat_tests}
use Rattle.std.proofs.lemmas.List.{map-append}
use Rattle.std.proofs.lemmas.List.Elements.{All-push, All-map, All-weaker, All-filter}
use Rattle.std.proofs.lemmas.List.Kept.{AllPairs-from_increasing, IsStrictlyIncreasing-filter}
use Rattle.std.proofs.lemmas.List.Quantifiers.{all_pairs_push}
use Rattle.std.proofs.lemmas.Slice.Zip.{AllZip-long}
use Rattle.ur_values.specs.declared.schema.Schema.{Schema}
use Rattle.ur_values.specs.declared.schema.TableShape.{TableShape}
use Rattle.ur_values.specs.declared.schema.Numbered.{Numbered}
use Rattle.ur_values.specs.Store.{Row, FitsShape, IsStorable}
use Rattle.ur_values.specs.Numbered.{numbers_of, next_number, add_row, put_row, drop_row, HaveRisingNumbers}
use Rattle.ur_keeper.specs.Tables.{Tables, AreRowsOf, AreTablesOf, table_at, sequence_at, with_table, inserted, replaced, removed, drawn}
use Rattle.ur_keeper.specs.Keeper.{HasTable, HasSequence, OfShape, IsRowOf}
use Rattle.ur_keeper.specs.Memory.{kept_of, AreKept}

-- ---- two lists, place by place

pub zip-at : {A B : Type 0} (R : A → B → Type 0) (xs : List A) (ys : List B) (n : ℕ) (d : B) → AllZip R xs ys
    → IfSome (slice_get xs n) (λ x. R x (get_or ys n d))
zip-at R [] ys n d h = tt
zip-at R (x ∷ xs) [] n d h = absurd h
zip-at R (x ∷ xs) (y ∷ ys) zero d h = h.0
zip-at R (x ∷ xs) (y ∷ ys) (suc n) d h = zip-at R xs ys n d h.1

pub zip-set : {A B : Type 0} (R : A → B → Type 0) (xs : List A) (ys : List B) (n : ℕ) (y : B) → AllZip R xs ys → IfSome (slice_get xs n) (λ x. R x y)
    → AllZip R xs (set ys n y)
zip-set R [] [] n y h r = h
zip-set R [] (z ∷ ys) n y h r = absurd h
zip-set R (x ∷ xs) [] n y h r = absurd h
zip-set R (x ∷ xs) (z ∷ ys) zero y h r = (r, h.1)
zip-set R (x ∷ xs) (z ∷ ys) (suc n) y h r = (h.0, zip-set R xs ys n y h.1 r)

if_both : {A : Type 0} (P Q R : A → Type 0) (o : Option A) → IfSome o P → IfSome o Q → ((x : A) → P x → Q x → R x) → IfSome o R
if_both P Q R None p q f = tt
if_both P Q R (Some x) p q f = f x p q

-- ---- the rows of one table

fold-grows : (a : ℕ) (xs : List ℕ) → a ≤ fold max a xs
fold-grows a [] = omega arith
fold-grows a (x ∷ xs) = omega (arith, fold-grows (max a x) xs)

below-next : (a : ℕ) (rows : List Numbered) (k d : ℕ) → k < length (numbers_of rows) → get_or (numbers_of rows) k d < fold max a (map (λ r. r.number + 1) rows)
below-next a [] k d h = absurd (omega arith)
below-next a (r ∷ rows) zero d h = omega (arith, fold-grows (max a (r.number + 1)) (map (λ (r : Numbered). r.number + 1) rows))
below-next a (r ∷ rows) (suc k) d h = below-next (max a (r.number + 1)) rows k d (omega arith)

pub rises-added : (rows : List Numbered) (row : Row) → HaveRisingNumbers rows → HaveRisingNumbers (add_row rows row)
rises-added rows row h =
    let number : Numbered → ℕ = λ r. r.number in
    let pairs = all_pairs_push (λ (x y : ℕ). x < y) (numbers_of rows) (next_number rows) (AllPairs-from_increasing (numbers_of rows) h) (λ k d l. below-next 0 rows k d l) in
    subst (λ xs. IsStrictlyIncreasing xs) (sym (map-append number rows (record { number = next_number rows; row = row } ∷ []))) (λ k l. pairs k (k + 1) 0 (omega arith) l)

pub numbers-put : (rows : List Numbered) (n : ℕ) (row : Row) → numbers_of (put_row rows n row) ≡ numbers_of rows
numbers-put [] n row = refl
numbers-put (r ∷ rows) n row =
    ap₂ (λ (k : ℕ) (ks : List ℕ). k ∷ ks)
    (cond_both (r.number == n) (record { number = n; row = row }) r (λ (x : Numbered). x.number ≡ r.number) (λ t. grind (arith, nat_tests)) (λ f. refl))
    (numbers-put rows n row)

numbers-dropped : (rows : List Numbered) (n : ℕ) → numbers_of (drop_row rows n) ≡ filter (λ k. not (k == n)) (numbers_of rows)
numbers-dropped [] n = refl
numbers-dropped (r ∷ rows) n = go (r.number == n) (numbers-dropped rows n)
  where
    go : (b : Bool) → numbers_of (drop_row rows n) ≡ filter (λ k. not (k == n)) (numbers_of rows)
        → map (λ (r : Numbered). r.number) (cond (not b) (r ∷ drop_row rows n) (drop_row rows n)) ≡ cond (not b) (r.number ∷ filter (λ k. not (k == n)) (numbers_of rows)) (filter (λ k. not (k == n)) (numbers_of rows))
    go true e = e
    go false e = ap (λ ks. r.number ∷ ks) e

rows-added : (rows : List Numbered) (row : Row) → All IsStorable row → (shape : TableShape) → AreRowsOf shape rows → FitsShape shape row
    → AreRowsOf shape (add_row rows row)
rows-added rows row s shape h f =
    let new : Numbered = record { number = next_number rows; row = row } in
    record {
      shaped = All-push (λ (r : Numbered). FitsShape shape r.row) rows new h.shaped f;
      sizes = All-push (λ (r : Numbered). All IsStorable r.row) rows new h.sizes s;
      numbers = rises-added rows row h.numbers;
    }

-- what holds of each row and of the new one holds of each row when it is put
all-put : (P : Row → Type 0) (rows : List Numbered) (n : ℕ) (row : Row) → P row → All (λ r. P r.row) rows → All (λ r. P r.row) (put_row rows n row)
all-put P rows n row p h =
    let there : Numbered → Numbered = λ r. cond (r.number == n) (record { number = n; row = row }) r in
    All-map (λ (r : Numbered). P r.row) there rows
    (All-weaker (λ (r : Numbered). P r.row) (λ (r : Numbered). P (there r).row) (λ r q. cond_both (r.number == n) (record { number = n; row = row }) r (λ (x : Numbered). P x.row) (λ _. p) (λ _. q)) rows h)

rows-put : (rows : List Numbered) (n : ℕ) (row : Row) → All IsStorable row → (shape : TableShape) → AreRowsOf shape rows → FitsShape shape row
    → AreRowsOf shape (put_row rows n row)
rows-put rows n row s shape h f =
    record {
      shaped = all-put (λ r. FitsShape shape r) rows n row f h.shaped;
      sizes = all-put (λ r. All IsStorable r) rows n row s h.sizes;
      numbers = subst (λ xs. IsStrictlyIncreasing xs) (sym (numbers-put rows n row)) h.numbers;
    }

rows-dropped : (rows : List Numbered) (n : ℕ) (shape : TableShape) → AreRowsOf shape rows → AreRowsOf shape (drop_row rows n)
rows-dropped rows n shape h =
    let stays : Numbered → Bool = λ r. not (r.number == n) in
    record {
      shaped = All-filter stays (λ (r : Numbered). FitsShape shape r.row) rows h.shaped;
      sizes = All-filter stays (λ (r : Numbered). All IsStorable r.row) rows h.sizes;
      numbers =
          subst (λ xs. IsStrictlyIncreasing xs) (sym (numbers-dropped rows n)) (IsStrictlyIncreasing-filter (λ k. not (k == n)) (numbers_of rows) h.numbers);
    }

-- ---- tables of the kept schema

pub table-within : (kept : Option Schema) (t : Tables) (n : ℕ) → AreKept kept t → HasTable (kept_of kept) n → n < length t.tables
table-within None t n h i = absurd i
table-within (Some schema) t n h i = omega (arith, AllZip-long AreRowsOf schema.tables t.tables h.tables, i)

pub sequence-within : (kept : Option Schema) (t : Tables) (n : ℕ) → AreKept kept t → HasSequence (kept_of kept) n → n < length t.sequences
sequence-within None t n h i = absurd i
sequence-within (Some schema) t n h i = omega (arith, AllZip-long (λ name n. pos 1 ≤ℤ n) schema.sequences t.sequences h.sequences, i)

pub rows-at : (kept : Option Schema) (t : Tables) (n : ℕ) → AreKept kept t → OfShape (kept_of kept) n (λ shape. AreRowsOf shape (table_at t n))
rows-at None t n h = tt
rows-at (Some schema) t n h = zip-at AreRowsOf schema.tables t.tables n [] h.tables

numbers-at : (schema : Schema) (t : Tables) (n : ℕ) (o : Option TableShape) → o ≡ slice_get schema.tables n → IfSome o (λ shape. AreRowsOf shape (table_at t n))
    → n < length schema.tables → HaveRisingNumbers (table_at t n)
numbers-at schema t n None e h i = absurd (none-within schema.tables n e i)
  where
    none-within : {A : Type 0} (xs : List A) (n : ℕ) → None ≡ slice_get xs n → n < length xs → ⊥
    none-within [] n e i = omega arith
    none-within (x ∷ xs) zero e i = cc
    none-within (x ∷ xs) (suc n) e i = none-within xs n e (omega arith)
numbers-at schema t n (Some shape) e h i = h.numbers

pub rises-at : (kept : Option Schema) (t : Tables) (n : ℕ) → AreKept kept t → HasTable (kept_of kept) n → HaveRisingNumbers (table_at t n)
rises-at None t n h i = absurd i
rises-at (Some schema) t n h i = numbers-at schema t n (slice_get schema.tables n) refl (rows-at (Some schema) t n h) i

with-kept : (schema : Schema) (t : Tables) (n : ℕ) (f : List Numbered → List Numbered) → AreTablesOf schema t
    → IfSome (slice_get schema.tables n) (λ shape. AreRowsOf shape (f (table_at t n))) → AreTablesOf schema (with_table n f t)
with-kept schema t n f h g = record { tables = zip-set AreRowsOf schema.tables t.tables n (f (table_at t n)) h.tables g; sequences = h.sequences }

pub inserted-kept : (kept : Option Schema) (t : Tables) (n : ℕ) (row : Row) → AreKept kept t → HasTable (kept_of kept) n → IsRowOf (kept_of kept) n row
    → AreKept kept (inserted n row t)
inserted-kept None t n row h i r = absurd i
inserted-kept (Some schema) t n row h i r =
    with-kept schema t n (λ rows. add_row rows row) h (if_both (λ shape. AreRowsOf shape (table_at t n)) (λ shape. FitsShape shape row) _ (slice_get schema.tables n) (rows-at (Some schema) t n h) r.shaped (rows-added (table_at t n) row r.sizes))

pub replaced-kept : (kept : Option Schema) (t : Tables) (n number : ℕ) (row : Row) → AreKept kept t → HasTable (kept_of kept) n → IsRowOf (kept_of kept) n row
    → AreKept kept (replaced n number row t)
replaced-kept None t n number row h i r = absurd i
replaced-kept (Some schema) t n number row h i r =
    with-kept schema t n (λ rows. put_row rows number row) h (if_both (λ shape. AreRowsOf shape (table_at t n)) (λ shape. FitsShape shape row) _ (slice_get schema.tables n) (rows-at (Some schema) t n h) r.shaped (rows-put (table_at t n) number row r.sizes))

pub removed-kept : (kept : Option Schema) (t : Tables) (n number : ℕ) → AreKept kept t → HasTable (kept_of kept) n → AreKept kept (removed n number t)
removed-kept None t n number h i = absurd i
removed-kept (Some schema) t n number h i =
    let rows = rows-at (Some schema) t n h in
    with-kept schema t n (λ rows. drop_row rows number) h (if_both (λ shape. AreRowsOf shape (table_at t n)) (λ shape. AreRowsOf shape (table_at t n)) _ (slice_get schema.tables n) rows rows (λ shape a b. rows-dropped (table_at t n) number shape a))

pub drawn-kept : (kept : Option Schema) (t : Tables) (n : ℕ) → AreKept kept t → HasSequence (kept_of kept) n → AreKept kept (drawn n t)
drawn-kept None t n h i = absurd i
drawn-kept (Some schema) t n h i =
    let at = zip-at (λ name n. pos 1 ≤ℤ n) schema.sequences t.sequences n (pos 1) h.sequences in
    let rises : pos 1 ≤ℤ sequence_at t n → pos 1 ≤ℤ (sequence_at t n +ℤ pos 1) = λ low. omega (arith, ints) in
    record {
      tables = h.tables;
      sequences =
          zip-set (λ name n. pos 1 ≤ℤ n) schema.sequences t.sequences n (sequence_at t n +ℤ pos 1) h.sequences (if_both (λ name. pos 1 ≤ℤ sequence_at t n) (λ name. pos 1 ≤ℤ sequence_at t n) _ (slice_get schema.sequences n) at at (λ name low _. rises low));
    }
