-- Rows whose numbers span a range, after each change.
use Rattle.std.proofs.Common.{◌≡◌, ℕ, zero, suc, ◌+◌, ◌-◌, ◌<◌, ◌≤◌, max, Bool, true, false, not, ◌||◌, ◌==◌, cond, List, [], ◌∷◌, ◌++◌, length, map, fold, refl, ap, sym, subst, arith, ◌∙◌, IsTrue}
use Rattle.std.proofs.lemmas.Bool.Decides.{nat_tests}
use Rattle.std.proofs.lemmas.List.{map-append, length-map, length-append}
use Rattle.std.proofs.lemmas.List.Sums.{fold-append}
use Rattle.std.proofs.lemmas.List.Folds.{list_any-append}
use Rattle.ur_values.specs.declared.schema.Numbered.{Numbered}
use Rattle.ur_values.specs.Store.{Row}
use Rattle.ur_values.specs.Numbered.{next_number, has_number, add_row, put_row, drop_row}
use Rattle.bench.specs.Rows.{Spans}

fold-grows : (a : ℕ) (xs : List ℕ) → a ≤ fold max a xs
fold-grows a [] = omega arith
fold-grows a (x ∷ xs) = omega (arith, fold-grows (max a x) xs)

fold-rises : (a b : ℕ) (xs : List ℕ) → a ≤ b → fold max a xs ≤ fold max b xs
fold-rises a b [] h = h
fold-rises a b (x ∷ xs) h = fold-rises (max a x) (max b x) xs (omega arith)

-- ---- a row is added

below-next : (a n : ℕ) (rows : List Numbered) → IsTrue (has_number rows n) → n < fold max a (map (λ (r : Numbered). r.number + 1) rows)
below-next a n [] h = cc
below-next a n (r ∷ rows) h = go (r.number == n) refl h (below-next (max a (r.number + 1)) n rows)
  where
    go : (b : Bool) → (r.number == n) ≡ b → IsTrue (b || has_number rows n) → (IsTrue (has_number rows n) → n < fold max (max a (r.number + 1)) (map (λ (r : Numbered). r.number + 1) rows)) → n < fold max (max a (r.number + 1)) (map (λ (r : Numbered). r.number + 1) rows)
    go true e t rec =
        let same : r.number ≡ n = grind (arith, nat_tests) in
        omega (arith, fold-grows (max a (r.number + 1)) (map (λ (r : Numbered). r.number + 1) rows))
    go false e t rec = rec t

next-added : (rows : List Numbered) (row : Row) → next_number (add_row rows row) ≡ next_number rows + 1
next-added rows row =
    let new : Numbered = record { number = next_number rows; row = row } in
    let split : map (λ (r : Numbered). r.number + 1) (rows ++ new ∷ []) ≡ map (λ (r : Numbered). r.number + 1) rows ++ (next_number rows + 1) ∷ [] = map-append (λ (r : Numbered). r.number + 1) rows (new ∷ []) in
    let folded : fold max 0 (map (λ (r : Numbered). r.number + 1) rows ++ (next_number rows + 1) ∷ []) ≡ max (next_number rows) (next_number rows + 1) = fold-append max 0 (map (λ (r : Numbered). r.number + 1) rows) ((next_number rows + 1) ∷ []) in
    ap (fold max 0) split ∙ folded ∙ omega arith

has-added : (rows : List Numbered) (new : Numbered) (n : ℕ) → IsTrue (has_number rows n || ((new.number == n) || false)) → IsTrue (has_number (rows ++ new ∷ []) n)
has-added rows new n h = subst (λ b. IsTrue b) (sym (list_any-append (λ (r : Numbered). r.number == n) rows (new ∷ []))) h

or-left : (a b : Bool) → IsTrue a → IsTrue (a || b)
or-left true b h = refl
or-left false b h = cc

or-right : (a b : Bool) → b ≡ true → IsTrue (a || (b || false))
or-right true b h = refl
or-right false b h = subst (λ c. IsTrue (c || false)) (sym h) refl

pub spans-empty : Spans 0 0 []
spans-empty = record { there = λ n l h. absurd (omega arith); next = omega arith; few = omega arith }

next-full : (n : ℕ) (rows : List Numbered) → Spans 0 n rows → n ≤ next_number rows
next-full zero rows s = omega arith
next-full (suc n) rows s = omega (arith, below-next 0 n rows (s.there n (omega arith) (omega arith)))

there-added : (n : ℕ) (rows : List Numbered) (row : Row) → Spans 0 n rows → (k : ℕ) → k < n + 1 → (b : Bool) → (k == n) ≡ b → IsTrue (has_number (add_row rows row) k)
there-added n rows row s k h true e =
    let next : n ≤ next_number rows = next-full n rows s in
    let same : (next_number rows == k) ≡ true = grind (arith, nat_tests, s.next) in
    has-added rows (record { number = next_number rows; row = row }) k (or-right (has_number rows k) (next_number rows == k) same)
there-added n rows row s k h false e =
    let below : k < n = grind (arith, nat_tests) in
    has-added rows (record { number = next_number rows; row = row }) k (or-left (has_number rows k) ((next_number rows == k) || false) (s.there k (omega arith) below))

pub spans-added : (n : ℕ) (rows : List Numbered) (row : Row) → Spans 0 n rows → Spans 0 (n + 1) (add_row rows row)
spans-added n rows row s =
    let next : next_number (add_row rows row) ≡ next_number rows + 1 = next-added rows row in
    let more : length (add_row rows row) ≡ length rows + 1 = length-append rows (record { number = next_number rows; row = row } ∷ []) in
    record {
      there = λ k l h. there-added n rows row s k h (k == n) refl;
      next = omega (arith, s.next);
      few = omega (arith, s.few);
    }

-- ---- a row is put in the place of one

put-number : (r : Numbered) (n : ℕ) (row : Row) (b : Bool) → (r.number == n) ≡ b → (cond b (record { number = n; row = row }) r).number ≡ r.number
put-number r n row true e = grind (arith, nat_tests)
put-number r n row false e = refl

has-put : (rows : List Numbered) (n : ℕ) (row : Row) (k : ℕ) → has_number (put_row rows n row) k ≡ has_number rows k
has-put [] n row k = refl
has-put (r ∷ rows) n row k =
    ap (λ m. (m == k) || has_number (put_row rows n row) k) (put-number r n row (r.number == n) refl) ∙ ap (λ b. (r.number == k) || b) (has-put rows n row k)

next-put : (a : ℕ) (rows : List Numbered) (n : ℕ) (row : Row) → fold max a (map (λ (r : Numbered). r.number + 1) (put_row rows n row)) ≡ fold max a (map (λ (r : Numbered). r.number + 1) rows)
next-put a [] n row = refl
next-put a (r ∷ rows) n row =
    ap (λ m. fold max (max a (m + 1)) (map (λ (r : Numbered). r.number + 1) (put_row rows n row))) (put-number r n row (r.number == n) refl) ∙ next-put (max a (r.number + 1)) rows n row

pub spans-put : (low high : ℕ) (rows : List Numbered) (n : ℕ) (row : Row) → Spans low high rows → Spans low high (put_row rows n row)
spans-put low high rows n row s =
    let same : next_number (put_row rows n row) ≡ next_number rows = next-put 0 rows n row in
    let many : length (put_row rows n row) ≡ length rows = simp length-map in
    record {
      there = λ k l h. subst (λ b. IsTrue b) (sym (has-put rows n row k)) (s.there k l h);
      next = omega (arith, s.next);
      few = omega (arith, s.few);
    }

-- ---- a row is removed

has-dropped : (rows : List Numbered) (n k : ℕ) → n < k → IsTrue (has_number rows k) → IsTrue (has_number (drop_row rows n) k)
has-dropped [] n k l h = h
has-dropped (r ∷ rows) n k l h = go (r.number == n) refl h (has-dropped rows n k l)
  where
    both : (c : Bool) → IsTrue (c || has_number rows k) → (IsTrue (has_number rows k) → IsTrue (has_number (drop_row rows n) k)) → IsTrue (c || has_number (drop_row rows n) k)
    both true t rec = refl
    both false t rec = rec t

    go : (b : Bool) → (r.number == n) ≡ b → IsTrue ((r.number == k) || has_number rows k) → (IsTrue (has_number rows k) → IsTrue (has_number (drop_row rows n) k)) → IsTrue (has_number (cond (not b) (r ∷ drop_row rows n) (drop_row rows n)) k)
    go true e t rec =
        let other : (r.number == k) ≡ false = grind (arith, nat_tests) in
        rec (subst (λ c. IsTrue (c || has_number rows k)) other t)
    go false e t rec = both (r.number == k) t rec

next-dropped : (a : ℕ) (rows : List Numbered) (n : ℕ) → fold max a (map (λ (r : Numbered). r.number + 1) (drop_row rows n)) ≤ fold max a (map (λ (r : Numbered). r.number + 1) rows)
next-dropped a [] n = omega arith
next-dropped a (r ∷ rows) n = go (r.number == n) (next-dropped a rows n) (next-dropped (max a (r.number + 1)) rows n)
  where
    go : (b : Bool) → fold max a (map (λ (r : Numbered). r.number + 1) (drop_row rows n)) ≤ fold max a (map (λ (r : Numbered). r.number + 1) rows) → fold max (max a (r.number + 1)) (map (λ (r : Numbered). r.number + 1) (drop_row rows n)) ≤ fold max (max a (r.number + 1)) (map (λ (r : Numbered). r.number + 1) rows) → fold max a (map (λ (r : Numbered). r.number + 1) (cond (not b) (r ∷ drop_row rows n) (drop_row rows n))) ≤ fold max (max a (r.number + 1)) (map (λ (r : Numbered). r.number + 1) rows)
    go true p q = omega (arith, fold-rises a (max a (r.number + 1)) (map (λ (r : Numbered). r.number + 1) rows) (omega arith))
    go false p q = q

few-dropped : (rows : List Numbered) (n : ℕ) → length (drop_row rows n) ≤ length rows
few-dropped [] n = omega arith
few-dropped (r ∷ rows) n = go (r.number == n) (few-dropped rows n)
  where
    go : (b : Bool) → length (drop_row rows n) ≤ length rows → length (cond (not b) (r ∷ drop_row rows n) (drop_row rows n)) ≤ length (r ∷ rows)
    go true p = omega arith
    go false p = omega arith

pub spans-dropped : (low high : ℕ) (rows : List Numbered) → Spans low high rows → Spans (low + 1) high (drop_row rows low)
spans-dropped low high rows s =
    record {
      there = λ k l h. has-dropped rows low k (omega arith) (s.there k (omega arith) h);
      next = omega (arith, next-dropped 0 rows low, s.next);
      few = omega (arith, few-dropped rows low, s.few);
    }

pub spans-later : (low low' high : ℕ) (rows : List Numbered) → low ≤ low' → Spans low high rows → Spans low' high rows
spans-later low low' high rows l s = record { there = λ k m h. s.there k (omega arith) h; next = s.next; few = s.few }
