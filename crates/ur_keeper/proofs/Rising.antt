-- Rows with rising numbers: what a number says of its place.
use Rattle.std.proofs.Common.{◌≡◌, ℕ, zero, suc, ◌+◌, ◌-◌, ◌<◌, ◌≤◌, max, Bool, true, false, ◌||◌, ◌==◌, List, [], ◌∷◌, ◌++◌, length, map, fold}
use Rattle.std.proofs.Common.{get_or, set, take, refl, ap, sym, subst, Some, ◌∙◌, arith, slice_index, IsTrue}
use Rattle.std.proofs.Math.Seq.{take-length}
use Rattle.std.specs.List.{remove, slice_get}
use Rattle.std.proofs.lemmas.Option.{slice_get_within, get_or_from_slice_get}
use Rattle.std.proofs.lemmas.List.Kept.{AllPairs-from_increasing}
use Rattle.std.proofs.lemmas.Bool.Decides.{nat_tests}
use Rattle.std.proofs.lemmas.List.{get_or-map, length-map, take_more}
use Rattle.ur_values.specs.declared.schema.Numbered.{Numbered}
use Rattle.ur_values.specs.Store.{Row}
use Rattle.ur_keeper.specs.Versions.{Rows}
use Rattle.ur_values.specs.Numbered.{numbers_of, next_number, has_number, put_row, drop_row, HaveRisingNumbers}

-- every number is greater than n
abbrev pub Above : ℕ → List Numbered → Type 0
Above n [] = Unit {0}
Above n (r ∷ rows) = (n < r.number) × Above n rows

abbrev pub Rising : List Numbered → Type 0
Rising [] = Unit {0}
Rising (r ∷ rows) = Above r.number rows × Rising rows

above-from : (n : ℕ) (rows : List Numbered) → ((j : ℕ) → j < length rows → n < slice_index (numbers_of rows) j) → Above n rows
above-from n [] h = tt
above-from n (r ∷ rows) h = (h 0 (omega arith), above-from n rows (λ j k. h (suc j) (omega arith)))

rising-from : (rows : List Numbered) → ((i j : ℕ) → i < j → j < length rows → slice_index (numbers_of rows) i < slice_index (numbers_of rows) j) → Rising rows
rising-from [] h = tt
rising-from (r ∷ rows) h = (above-from r.number rows (λ j k. h 0 (suc j) (omega arith) (omega arith)), rising-from rows (λ i j k l. h (suc i) (suc j) (omega arith) (omega arith)))

pub rising : (rows : List Numbered) → HaveRisingNumbers rows → Rising rows
rising rows h = rising-from rows (λ i j k l. AllPairs-from_increasing (numbers_of rows) h i j 0 k (simp length-map l))

-- ---- a row is put or dropped by its number

pub put-above : (n : ℕ) (row : Row) (rows : List Numbered) → Above n rows → put_row rows n row ≡ rows
put-above n row [] a = refl
put-above n row (r ∷ rows) a =
    let e : (r.number == n) ≡ false = grind (arith, nat_tests) in
    rw e (ap (λ rest. r ∷ rest) (put-above n row rows a.1))

pub drop-above : (n : ℕ) (rows : List Numbered) → Above n rows → drop_row rows n ≡ rows
drop-above n [] a = refl
drop-above n (r ∷ rows) a =
    let e : (r.number == n) ≡ false = grind (arith, nat_tests) in
    rw e (ap (λ rest. r ∷ rest) (drop-above n rows a.1))

above-at : (n : ℕ) (rows : List Numbered) (i : ℕ) → Above n rows → i < length rows → n < slice_index (numbers_of rows) i
above-at n [] i a h = absurd (omega arith)
above-at n (r ∷ rows) zero a h = a.0
above-at n (r ∷ rows) (suc i) a h = above-at n rows i a.1 (omega arith)

pub put-at : (rows : List Numbered) (i n : ℕ) (row : Row) → Rising rows → i < length rows → slice_index (numbers_of rows) i ≡ n
    → set rows i (record { number = n; row = row }) ≡ put_row rows n row
put-at [] i n row s h e = absurd (omega arith)
put-at (r ∷ rows) zero n row s h e =
    let same : (r.number == n) ≡ true = grind (arith, nat_tests) in
    let above : Above n rows = subst (λ k. Above k rows) e s.0 in
    rw same (ap (λ rest. record { number = n; row = row } ∷ rest) (sym (put-above n row rows above)))
put-at (r ∷ rows) (suc i) n row s h e =
    let low = above-at r.number rows i s.0 (omega arith) in
    let other : (r.number == n) ≡ false = grind (arith, nat_tests) in
    rw other (ap (λ rest. r ∷ rest) (put-at rows i n row s.1 (omega arith) e))

pub drop-at : (rows : List Numbered) (i n : ℕ) → Rising rows → i < length rows → slice_index (numbers_of rows) i ≡ n → remove rows i ≡ drop_row rows n
drop-at [] i n s h e = absurd (omega arith)
drop-at (r ∷ rows) zero n s h e =
    let same : (r.number == n) ≡ true = grind (arith, nat_tests) in
    let above : Above n rows = subst (λ k. Above k rows) e s.0 in
    rw same (sym (drop-above n rows above))
drop-at (r ∷ rows) (suc i) n s h e =
    let low = above-at r.number rows i s.0 (omega arith) in
    let other : (r.number == n) ≡ false = grind (arith, nat_tests) in
    rw other (ap (λ rest. r ∷ rest) (drop-at rows i n s.1 (omega arith) e))

-- ---- the next number

-- every number is below n
abbrev Below : ℕ → List Numbered → Type 0
Below n [] = Unit {0}
Below n (r ∷ rows) = (r.number < n) × Below n rows

fold-below : (n a : ℕ) (rows : List Numbered) → a ≤ n → Below n rows → fold max a (map (λ (r : Numbered). r.number + 1) rows) ≤ n
fold-below n a [] h b = h
fold-below n a (r ∷ rows) h b = fold-below n (max a (r.number + 1)) rows (omega arith) b.1

fold-last : (a : ℕ) (rows : List Numbered) (last : Numbered) → a ≤ last.number + 1 → Below last.number rows
    → fold max a (map (λ (r : Numbered). r.number + 1) (rows ++ last ∷ [])) ≡ last.number + 1
fold-last a [] last h b = omega arith
fold-last a (r ∷ rows) last h b = fold-last (max a (r.number + 1)) rows last (omega arith) b.1

above-last : (n : ℕ) (rows : List Numbered) (last : Numbered) → Above n (rows ++ last ∷ []) → n < last.number
above-last n [] last a = a.0
above-last n (r ∷ rows) last a = above-last n rows last a.1

below-last : (rows : List Numbered) (last : Numbered) → Rising (rows ++ last ∷ []) → Below last.number rows
below-last [] last s = tt
below-last (r ∷ rows) last s = (above-last r.number rows last s.0, below-last rows last s.1)

pub next-last : (rows : List Numbered) (last : Numbered) → Rising (rows ++ last ∷ []) → next_number (rows ++ last ∷ []) ≡ last.number + 1
next-last rows last s = fold-last 0 rows last (omega arith) (below-last rows last s)

-- ---- a number that is there has a place

pub place-of : (rows : List Numbered) (n : ℕ) → IsTrue (has_number rows n) → (k : ℕ) × (k < length rows) × (slice_index (numbers_of rows) k ≡ n)
place-of [] n h = cc
place-of (r ∷ rows) n h = go (r.number == n) refl h (place-of rows n)
  where
    go : (b : Bool) → (r.number == n) ≡ b → IsTrue (b || has_number rows n)
        → (IsTrue (has_number rows n) → (k : ℕ) × (k < length rows) × (slice_index (numbers_of rows) k ≡ n))
        → (k : ℕ) × (k < length (r ∷ rows)) × (slice_index (numbers_of (r ∷ rows)) k ≡ n)
    go true e t rec = (0, omega arith, grind (arith, nat_tests))
    go false e t rec = let p = rec t in (suc p.0, omega arith, p.2)

-- ---- what the search for a number knows

order : (rows : List Numbered) → HaveRisingNumbers rows → (i j : ℕ) → i ≤ j → j < length rows
    → slice_index (numbers_of rows) i ≤ slice_index (numbers_of rows) j
order rows h i j k l =
    let below : i < j → slice_index (numbers_of rows) i < slice_index (numbers_of rows) j = λ m. AllPairs-from_increasing (numbers_of rows) h i j 0 m (simp length-map l) in
    let same : i ≡ j → slice_index (numbers_of rows) i ≡ slice_index (numbers_of rows) j = λ m. ap (slice_index (numbers_of rows)) m in
    grind arith

pub between-first : (s rows : List Numbered) (n : ℕ) → s ≡ rows → IsTrue (has_number rows n)
    → (length s ≤ length s) × ((k : ℕ) × (0 ≤ k) × (k < length s) × (slice_index (numbers_of s) k ≡ n))
between-first s rows n e t =
    let p = place-of s n (subst (λ xs. IsTrue (has_number xs n)) (sym e) t) in
    (omega arith, (p.0, omega arith, p.1, p.2))

pub goes-up : (s rows : List Numbered) → s ≡ rows → HaveRisingNumbers rows → (m k n : ℕ) (d : Numbered) → m < length s → (get_or s m d).number < n
    → slice_index (numbers_of s) k ≡ n → m + 1 ≤ k
goes-up s rows e h m k n d l t f =
    let rises : HaveRisingNumbers s = subst (λ xs. HaveRisingNumbers xs) (sym e) h in
    let o : k ≤ m → slice_index (numbers_of s) k ≤ slice_index (numbers_of s) m = λ q. order s rises k m q l in
    let g : slice_index (numbers_of s) m ≡ (get_or s m d).number = get_or-map (λ (r : Numbered). r.number) s m d 0 l in
    grind arith

pub goes-down : (s rows : List Numbered) → s ≡ rows → HaveRisingNumbers rows → (m k n : ℕ) (d : Numbered) → k < length s → m < length s
    → n ≤ (get_or s m d).number → ((get_or s m d).number ≡ n → ⊥) → slice_index (numbers_of s) k ≡ n → k < m
goes-down s rows e h m k n d kl l t u f =
    let rises : HaveRisingNumbers s = subst (λ xs. HaveRisingNumbers xs) (sym e) h in
    let o : m ≤ k → slice_index (numbers_of s) m ≤ slice_index (numbers_of s) k = λ q. order s rises m k q kl in
    let g : slice_index (numbers_of s) m ≡ (get_or s m d).number = get_or-map (λ (r : Numbered). r.number) s m d 0 l in
    grind arith

-- ---- one more number

pub number-after : (s rows : List Numbered) (last : Numbered) → s ≡ rows → HaveRisingNumbers rows → slice_get s (length s - 1) ≡ Some last
    → last.number + 1 ≡ next_number rows
number-after s rows last e h g =
    let within : length s - 1 < length s = slice_get_within s (length s - 1) last g in
    let here : get_or s (length s - 1) last ≡ last = get_or_from_slice_get s (length s - 1) last last g in
    let whole : length s - 1 + 1 ≡ length s = omega arith in
    let split : s ≡ take (length s - 1) s ++ last ∷ [] =
    sym (take-length s) ∙ ap (λ n. take n s) (sym whole) ∙ take_more s (length s - 1) last within ∙ ap (λ x. take (length s - 1) s ++ x ∷ []) here in
    let rises : Rising (take (length s - 1) s ++ last ∷ []) = subst (λ xs. Rising xs) split (rising s (subst (λ xs. HaveRisingNumbers xs) (sym e) h)) in
    sym (next-last (take (length s - 1) s) last rises) ∙ ap next_number (sym split) ∙ ap next_number e

-- ---- the rows of a table

abbrev pub versions : List Numbered → List Numbered → Rows
versions saved current = record { saved = saved; current = current }
