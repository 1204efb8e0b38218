-- Rows as they are read of bodies.
use Rattle.std.proofs.Common.{◌≡◌, ℕ, zero, suc, ◌+◌, ◌≤◌, ◌<◌, max, ℤ, pos, negsuc, ◌+ℤ◌, ◌≤ℤ◌, Bool, cond, ◌&&◌, List, [], ◌∷◌, ◌++◌, length, map, fold, get_or, All, Option, Some, None, refl, ap, sym, subst, ◌∙◌, arith}
use Rattle.std.specs.Prelude.{unsigned_abs, unwrap_or, slice_get}
use Rattle.std.specs.List.Sorted.{IsStrictlyIncreasing}
use Rattle.std.specs.Ordering.{int_cmp, int_eq, eq_by_cmp}
use Rattle.std.specs.FinMap.{insert, remove, get-insert, get-remove}
use Rattle.std.proofs.lemmas.Int.{ints}
use Rattle.std.proofs.lemmas.List.{map-append}
use Rattle.std.proofs.lemmas.List.Elements.{All-push, All-map, All-weaker}
use Rattle.std.proofs.lemmas.List.Kept.{AllPairs-from_increasing}
use Rattle.std.proofs.lemmas.List.Quantifiers.{all_pairs_push}
use Rattle.ur_values.specs.declared.schema.ColumnKind.{ColumnKind}
use Rattle.ur_values.specs.declared.schema.TableShape.{TableShape}
use Rattle.ur_values.specs.declared.schema.Numbered.{Numbered}
use Rattle.ur_values.specs.Numbered.{numbers_of, next_number, HaveRisingNumbers}
use Rattle.ur_values.specs.Store.{Row, FitKinds, FitsShape, IsStorable, kinds_of}
use Rattle.ur_keeper.specs.Tables.{AreRowsOf}
use Rattle.ur_keeper_bodies.specs.declared.stored.Layout.{Layout}
use Rattle.ur_keeper_bodies.specs.Rows.{kinds_in, MayStand}
use Rattle.ur_keeper_bodies.specs.Columns.{Column}
use Rattle.ur_keeper_bodies.specs.Stored.{body_row}
use Rattle.ur_keeper_bodies.specs.Bodies.{BodyMap, body_at}
use Rattle.ur_keeper_bodies.proofs.Places.{place_total}
use Rattle.ur_keeper_bodies.proofs.Tables.{place-tie}
use Rattle.ur_keeper_kept.specs.Laid.{row_by, rows_by, IsBodyBy}
use Rattle.ur_keeper_kept.proofs.Rows.{fold-least}
use Rattle.ur_keeper_kept.specs.Kept.{AreRead}
use Rattle.ur_keeper_kept.proofs.Steps.{next-push}

-- ---- one row more

below-next : (a : ℕ) (rows : List Numbered) (k d : ℕ) → k < length (numbers_of rows) → get_or (numbers_of rows) k d < fold max a (map (λ r. r.number + 1) rows)
below-next a [] k d h = absurd (omega arith)
below-next a (r ∷ rows) zero d h = omega (arith, fold-least (max a (r.number + 1)) (map (λ (r : Numbered). r.number + 1) rows))
below-next a (r ∷ rows) (suc k) d h = below-next (max a (r.number + 1)) rows k d (omega arith)

rises-push : (rows : List Numbered) (r : Numbered) → next_number rows ≤ r.number → HaveRisingNumbers rows → HaveRisingNumbers (rows ++ r ∷ [])
rises-push rows r above h =
    let number : Numbered → ℕ = λ r. r.number in
    let pairs = all_pairs_push (λ (x y : ℕ). x < y) (numbers_of rows) r.number (AllPairs-from_increasing (numbers_of rows) h) (λ k d l. omega (arith, below-next 0 rows k d l, above)) in
    subst (λ xs. IsStrictlyIncreasing xs) (sym (map-append number rows (r ∷ []))) (λ k l. pairs k (k + 1) 0 (omega arith) l)

above-low : (z n : ℤ) (a : ℕ) → z ≡ pos a → z ≤ℤ n → a ≤ unsigned_abs n
above-low z (pos j) a is h = omega (arith, ints, is, h)
above-low z (negsuc j) a is h = absurd (omega (arith, ints, is, h))

one-behind : (z n : ℤ) (a : ℕ) → z ≡ pos a → z ≤ℤ n → n +ℤ pos 1 ≡ pos (max a (unsigned_abs n + 1))
one-behind z (pos j) a is h = ap pos (most a j (omega (arith, ints, is, h)))
  where
    most : (a j : ℕ) → a ≤ j → j + 1 ≡ max a (j + 1)
    most a j l = omega (arith, l)
one-behind z (negsuc j) a is h = absurd (omega (arith, ints, is, h))

pub read-more : (layout : Layout) (columns : List Column) (entries : List (ℤ × List ℕ)) (rows : List Numbered) (next n : ℤ) (body : List ℕ) (row : Row)
    → AreRead layout columns entries rows next → next ≤ℤ n → body_row layout columns body ≡ Some row → MayStand (kinds_in columns) row
    → AreRead layout columns (entries ++ (n, body) ∷ []) (rows ++ record { number = unsigned_abs n; row = row } ∷ []) (n +ℤ pos 1)
read-more layout columns entries rows next n body row h low is may =
    let new : Numbered = record { number = unsigned_abs n; row = row } in
    let new-is : new ≡ row_by layout columns (n, body) = λ i. record { number = unsigned_abs n; row = ap (λ o. unwrap_or o []) (sym is) i } in
    record {
      read =
          ap (λ (x : List Numbered). x ++ new ∷ []) h.read ∙ ap (λ (r : Numbered). rows_by layout columns entries ++ r ∷ []) new-is ∙ sym (map-append (row_by layout columns) entries ((n, body) ∷ []));
      laid = All-push (IsBodyBy layout columns) entries (n, body) h.laid (record { low = omega (arith, ints, h.last, low); body = (row, is, may) });
      rising = rises-push rows new (above-low next n (next_number rows) h.last low) h.rising;
      last = one-behind next n (next_number rows) h.last low ∙ ap pos (sym (next-push rows new));
    }

pub read-step : (layout : Layout) (columns : List Column) (entries entries' : List (ℤ × List ℕ)) (rows rows' : List Numbered) (next n next' : ℤ) (body : List ℕ) (row : Row)
    → AreRead layout columns entries rows next → next ≤ℤ n → body_row layout columns body ≡ Some row → MayStand (kinds_in columns) row
    → entries' ≡ entries ++ (n, body) ∷ [] → rows' ≡ rows ++ record { number = unsigned_abs n; row = row } ∷ [] → next' ≡ n +ℤ pos 1
    → AreRead layout columns entries' rows' next'
read-step layout columns entries entries' rows rows' next n next' body row h low is may e r x =
    subst (λ (q : List (ℤ × List ℕ) × (List Numbered × ℤ)). AreRead layout columns q.0 q.1.0 q.1.1) (λ i. (sym e i, (sym r i, sym x i))) (read-more layout columns entries rows next n body row h low is may)

-- ---- rows of a shape

pub kinds-same : (columns : List Column) → kinds_in columns ≡ map (λ c. c.1) columns
kinds-same [] = refl
kinds-same (c ∷ columns) = ap (λ (ks : List ColumnKind). c.1 ∷ ks) (kinds-same columns)

pub rows-shaped : (layout : Layout) (shape : TableShape) (entries : List (ℤ × List ℕ)) (rows : List Numbered) (next : ℤ)
    → AreRead layout shape.columns entries rows next → AreRowsOf shape rows
rows-shaped layout shape entries rows next h =
    let columns = shape.columns in
    let shaped : (e : ℤ × List ℕ) → IsBodyBy layout columns e → FitsShape shape (row_by layout columns e).row =
    λ e b. subst (λ (o : Option Row). FitKinds (unwrap_or o []) (kinds_of shape)) (sym b.body.1) (subst (λ (ks : List ColumnKind). FitKinds b.body.0 ks) (kinds-same shape.columns) b.body.2.fits) in
    let sized : (e : ℤ × List ℕ) → IsBodyBy layout columns e → All IsStorable (row_by layout columns e).row =
    λ e b. subst (λ (o : Option Row). All IsStorable (unwrap_or o [])) (sym b.body.1) b.body.2.sizes in
    record {
      shaped =
          subst (λ (x : List Numbered). All (λ r. FitsShape shape r.row) x) (sym h.read) (All-map (λ (r : Numbered). FitsShape shape r.row) (row_by layout columns) entries (All-weaker (IsBodyBy layout columns) (λ e. FitsShape shape (row_by layout columns e).row) shaped entries h.laid));
      sizes =
          subst (λ (x : List Numbered). All (λ r. All IsStorable r.row) x) (sym h.read) (All-map (λ (r : Numbered). All IsStorable r.row) (row_by layout columns) entries (All-weaker (IsBodyBy layout columns) (λ e. All IsStorable (row_by layout columns e).row) sized entries h.laid));
      numbers = h.rising;
    }

pub get-there : {A : Type 0} (xs : List A) (i : ℕ) (x : A) → i < length xs → x ≡ get_or xs i x → slice_get xs i ≡ Some x
get-there [] i x l e = absurd (omega (arith, l))
get-there (y ∷ xs) zero x l e = ap Some (sym e)
get-there (y ∷ xs) (suc i) x l e = get-there xs i x (omega (arith, l)) e

-- ---- one body after a change

same-place : (t n tab num : ℤ) → eq_by_cmp int_cmp num n ≡ int_eq n num
same-place t n tab num = grind arith

here-is : (t n tab num : ℤ) (here : Bool) → here ≡ (int_eq t tab && int_eq n num) → eq_by_cmp int_cmp num n ≡ int_eq n num
    → (int_eq t tab && eq_by_cmp int_cmp num n) ≡ here
here-is t n tab num here e s = ap (λ b. int_eq t tab && b) s ∙ sym e

pub body-put : (m : BodyMap) (t n tab num : ℤ) (v : List ℕ) (here : Bool) → here ≡ (int_eq t tab && int_eq n num)
    → cond here (Some v) (body_at m tab num) ≡ body_at (insert m (t, n) v) tab num
body-put m t n tab num v here e =
    sym (get-insert place_total m (t, n) v (tab, num)
    ∙ ap (λ b. cond b (Some v) (body_at m tab num)) (place-tie tab t num n (int_eq t tab) refl ∙ here-is t n tab num here e (same-place t n tab num)))

pub body-taken : (m : BodyMap) (t n tab num : ℤ) (here : Bool) → here ≡ (int_eq t tab && int_eq n num)
    → cond here None (body_at m tab num) ≡ body_at (remove m (t, n)) tab num
body-taken m t n tab num here e =
    sym (get-remove place_total m (t, n) (tab, num)
    ∙ ap (λ b. cond b None (body_at m tab num)) (place-tie tab t num n (int_eq t tab) refl ∙ here-is t n tab num here e (same-place t n tab num)))
