-- The rows of a table whose bodies change.
use Rattle.std.proofs.Common.{◌≡◌, ℕ, ◌+◌, ◌≤◌, ◌<◌, max, ℤ, pos, negsuc, ◌≤ℤ◌, Bool, true, false, not, cond, ◌||◌, ◌==◌, List, [], ◌∷◌, ◌++◌, map, fold, All, T, refl, ap, sym, subst, ◌∙◌, arith}
use Rattle.std.specs.Prelude.{unsigned_abs, unwrap_or}
use Rattle.std.specs.declared.cmp.Ordering.{Ordering}
use Rattle.std.specs.declared.cmp.Ordering.TheVariants.{Less, Equal, Greater}
use Rattle.std.specs.Ordering.{int_cmp, eq_by_cmp, is_lt}
use Rattle.std.specs.Cmp.{int_cmp_total}
use Rattle.std.proofs.lemmas.Bool.{false≢true}
use Rattle.ur_keeper_bodies.proofs.Places.{both, first, second}
use Rattle.std.specs.FinMap.{put, is_sorted, int_cmp-IsAntisymmetric}
use Rattle.std.specs.FinMap.Entries.{where_key, by_order, below_all}
use Rattle.std.proofs.lemmas.Int.{ints}
use Rattle.std.proofs.lemmas.Bool.Decides.{nat_tests}
use Rattle.std.proofs.lemmas.List.{map-append}
use Rattle.std.proofs.lemmas.List.Elements.{All-head, All-tail, All-push, All-cons}
use Rattle.ur_values.specs.declared.schema.Numbered.{Numbered}
use Rattle.ur_values.specs.Numbered.{next_number, has_number, add_row, put_row, drop_row}
use Rattle.ur_values.specs.Store.{Row}
use Rattle.ur_keeper_bodies.specs.Columns.{Column, columns_body}
use Rattle.ur_keeper_bodies.proofs.Cells.{columns-read-back}
use Rattle.ur_keeper_kept.specs.Laid.{row_in, rows_in, IsRowBody, MayWrite}

abbrev Es : Type 0
Es = List (ℤ × List ℕ)

-- the body of a row is read as the row
written-in : (columns : List Column) (n : ℕ) (row : Row) → MayWrite columns row
    → row_in columns (pos n, columns_body columns row) ≡ record { number = n; row = row }
written-in columns n row m = ap (λ o. record { number = n; row = unwrap_or o [] }) (columns-read-back columns row m.short m.may.fits m.may.sizes)

pub written-body : (columns : List Column) (n : ℕ) (row : Row) → MayWrite columns row → IsRowBody columns (pos n, columns_body columns row)
written-body columns n row m = record { low = omega (arith, ints); body = (row, columns-read-back columns row m.short m.may.fits m.may.sizes, m.may) }

-- ---- a row last

pub fold-least : (a : ℕ) (xs : List ℕ) → a ≤ fold max a xs
fold-least a [] = omega arith
fold-least a (x ∷ xs) = omega (arith, fold-least (max a x) xs)

above-int : (z : ℤ) (n : ℕ) → pos 0 ≤ℤ z → unsigned_abs z < n → int_cmp (pos n) z ≡ Greater
above-int (pos k) n low less = grind arith
above-int (negsuc k) n low less = absurd (omega (arith, ints))

put-above : (columns : List Column) (a n : ℕ) (body : List ℕ) (es : Es) → All (IsRowBody columns) es
    → fold max a (map (λ r. r.number + 1) (rows_in columns es)) ≤ n → put int_cmp (pos n) body es ≡ es ++ (pos n, body) ∷ []
put-above columns a n body [] h l = refl
put-above columns a n body (e ∷ es) h l =
    let most : max a (unsigned_abs e.0 + 1) ≤ n = omega (arith, l, fold-least (max a (unsigned_abs e.0 + 1)) (map (λ (r : Numbered). r.number + 1) (rows_in columns es))) in
    let greater : int_cmp (pos n) e.0 ≡ Greater = above-int e.0 n (All-head (IsRowBody columns) e es h).low (omega (arith, most)) in
    ap (λ r. by_order r ((pos n, body) ∷ e ∷ es) ((e.0, body) ∷ es) (e ∷ put int_cmp (pos n) body es)) greater
    ∙ ap (λ r. e ∷ r) (put-above columns (max a (unsigned_abs e.0 + 1)) n body es (All-tail (IsRowBody columns) e es h) l)

pub rows-added : (columns : List Column) (row : Row) (es : Es) → All (IsRowBody columns) es → MayWrite columns row
    → rows_in columns (put int_cmp (pos (next_number (rows_in columns es))) (columns_body columns row) es) ≡ add_row (rows_in columns es) row
rows-added columns row es h m =
    let n = next_number (rows_in columns es) in
    ap (rows_in columns) (put-above columns 0 n (columns_body columns row) es h (omega arith))
    ∙ map-append (row_in columns) es ((pos n, columns_body columns row) ∷ [])
    ∙ ap (λ (r : Numbered). rows_in columns es ++ r ∷ []) (written-in columns n row m)

pub bodies-added : (columns : List Column) (row : Row) (es : Es) → All (IsRowBody columns) es → MayWrite columns row
    → All (IsRowBody columns) (put int_cmp (pos (next_number (rows_in columns es))) (columns_body columns row) es)
bodies-added columns row es h m =
    let n = next_number (rows_in columns es) in
    subst (λ (x : Es). All (IsRowBody columns) x) (sym (put-above columns 0 n (columns_body columns row) es h (omega arith))) (All-push (IsRowBody columns) es (pos n, columns_body columns row) h (written-body columns n row m))

-- ---- without a row

pub same-number : (z : ℤ) (n : ℕ) → pos 0 ≤ℤ z → eq_by_cmp int_cmp (pos n) z ≡ (unsigned_abs z == n)
same-number (pos k) n low = grind (arith, nat_tests)
same-number (negsuc k) n low = absurd (omega (arith, ints))

pub rows-dropped : (columns : List Column) (n : ℕ) (es : Es) → All (IsRowBody columns) es
    → rows_in columns (where_key int_cmp (λ x. not (eq_by_cmp int_cmp (pos n) x)) es) ≡ drop_row (rows_in columns es) n
rows-dropped columns n [] h = refl
rows-dropped columns n (e ∷ es) h =
    let rest = rows-dropped columns n es (All-tail (IsRowBody columns) e es h) in
    let same = same-number e.0 n (All-head (IsRowBody columns) e es h).low in
    chosen (eq_by_cmp int_cmp (pos n) e.0) (unsigned_abs e.0 == n) same rest
  where
    left : Es
    left = where_key int_cmp (λ x. not (eq_by_cmp int_cmp (pos n) x)) es

    chosen : (a b : Bool) → a ≡ b → rows_in columns left ≡ drop_row (rows_in columns es) n
        → rows_in columns (cond (not a) (e ∷ left) left) ≡ cond (not b) (row_in columns e ∷ drop_row (rows_in columns es) n) (drop_row (rows_in columns es) n)
    chosen a true e1 r = subst (λ (x : Bool). rows_in columns (cond (not x) (e ∷ left) left) ≡ drop_row (rows_in columns es) n) (sym e1) r
    chosen a false e1 r =
        subst (λ (x : Bool). rows_in columns (cond (not x) (e ∷ left) left) ≡ row_in columns e ∷ drop_row (rows_in columns es) n) (sym e1) (ap (λ (x : List Numbered). row_in columns e ∷ x) r)

-- ---- another row in a row's place

less-is : (r : Ordering) → T (is_lt r) → r ≡ Less
less-is Less p = refl
less-is Equal p = absurd p
less-is Greater p = absurd p

-- the numbers above n are not n
above-number : (z : ℤ) (n : ℕ) → pos 0 ≤ℤ z → int_cmp (pos n) z ≡ Less → (unsigned_abs z == n) ≡ false
above-number (pos k) n low less = grind (arith, nat_tests)
above-number (negsuc k) n low less = absurd (omega (arith, ints))

below-number : (z : ℤ) (n : ℕ) → pos 0 ≤ℤ z → int_cmp (pos n) z ≡ Greater → (unsigned_abs z == n) ≡ false
below-number (pos k) n low more = grind (arith, nat_tests)
below-number (negsuc k) n low more = absurd (omega (arith, ints))

put-none : (columns : List Column) (n : ℕ) (row : Row) (es : Es) → All (IsRowBody columns) es → T (below_all int_cmp (pos n) es)
    → put_row (rows_in columns es) n row ≡ rows_in columns es
put-none columns n row [] h b = refl
put-none columns n row (e ∷ es) h b =
    let other = above-number e.0 n (All-head (IsRowBody columns) e es h).low (less-is _ (first _ _ b)) in
    ap (λ t. cond t (record { number = n; row = row }) (row_in columns e) ∷ put_row (rows_in columns es) n row) other
    ∙ ap (λ (r : List Numbered). row_in columns e ∷ r) (put-none columns n row es (All-tail (IsRowBody columns) e es h) (second _ _ b))

has-none : (columns : List Column) (n : ℕ) (es : Es) → All (IsRowBody columns) es → T (below_all int_cmp (pos n) es) → has_number (rows_in columns es) n ≡ false
has-none columns n [] h b = refl
has-none columns n (e ∷ es) h b =
    let other = above-number e.0 n (All-head (IsRowBody columns) e es h).low (less-is _ (first _ _ b)) in
    ap (λ t. t || has_number (rows_in columns es) n) other ∙ has-none columns n es (All-tail (IsRowBody columns) e es h) (second _ _ b)

below-from : (n : ℕ) (e : ℤ × List ℕ) (es : Es) → int_cmp (pos n) e.0 ≡ Less → T (below_all int_cmp e.0 es) → T (below_all int_cmp (pos n) es)
below-from n e [] l b = tt
below-from n e (f ∷ es) l b =
    both _ _ (subst (λ r. T (is_lt r)) (sym (int_cmp_total.trans (pos n) e.0 f.0 l (less-is _ (first _ _ b)))) tt) (below-from n e es l (second _ _ b))

tied-below : (n : ℕ) (e : ℤ × List ℕ) (es : Es) → int_cmp (pos n) e.0 ≡ Equal → T (below_all int_cmp e.0 es) → T (below_all int_cmp (pos n) es)
tied-below n e es t b = subst (λ (z : ℤ). T (below_all int_cmp z es)) (sym (int_cmp-IsAntisymmetric (pos n) e.0 t)) b

number-is : (z : ℤ) (n : ℕ) → int_cmp (pos n) z ≡ Equal → z ≡ pos n
number-is z n t = sym (int_cmp-IsAntisymmetric (pos n) z t)

same-test : (z : ℤ) (n : ℕ) → z ≡ pos n → (unsigned_abs z == n) ≡ true
same-test z n e = subst (λ (x : ℤ). (unsigned_abs x == n) ≡ true) (sym e) (itself n)
  where
    itself : (n : ℕ) → (n == n) ≡ true
    itself n = grind (arith, nat_tests)

pub rows-put : (columns : List Column) (n : ℕ) (row : Row) (es : Es) → All (IsRowBody columns) es → MayWrite columns row → T (is_sorted int_cmp es)
    → has_number (rows_in columns es) n ≡ true
    → rows_in columns (put int_cmp (pos n) (columns_body columns row) es) ≡ put_row (rows_in columns es) n row
rows-put columns n row [] h m s there = absurd (false≢true there)
rows-put columns n row (e ∷ es) h m s there =
    let low = (All-head (IsRowBody columns) e es h).low in
    let others = All-tail (IsRowBody columns) e es h in
    let body = columns_body columns row in
    let new : Numbered = record { number = n; row = row } in
    elim (int_cmp (pos n) e.0) as (λ r. int_cmp (pos n) e.0 ≡ r → rows_in columns (by_order r ((pos n, body) ∷ e ∷ es) ((e.0, body) ∷ es) (e ∷ put int_cmp (pos n) body es)) ≡ put_row (rows_in columns (e ∷ es)) n row) [
      | Less ↦ λ p. absurd (false≢true (sym (has-none columns n (e ∷ es) h (both _ _ (subst (λ r. T (is_lt r)) (sym p) tt) (below-from n e es p (first _ _ s)))) ∙ there))
      | Equal ↦ λ p.
          let is = number-is e.0 n p in
          (λ i. row_in columns (is i, body) ∷ rows_in columns es)
          ∙ (λ i. written-in columns n row m i ∷ sym (put-none columns n row es others (tied-below n e es p (first _ _ s))) i)
          ∙ ap (λ t. cond t new (row_in columns e) ∷ put_row (rows_in columns es) n row) (sym (same-test e.0 n is))
      | Greater ↦ λ p.
          let other = below-number e.0 n low p in
          ap (λ (r : List Numbered). row_in columns e ∷ r) (rows-put columns n row es others m (second _ _ s) (sym (ap (λ t. t || has_number (rows_in columns es) n) other) ∙ there))
          ∙ ap (λ t. cond t new (row_in columns e) ∷ put_row (rows_in columns es) n row) (sym other)
    ] refl

pub bodies-replaced : (columns : List Column) (n : ℕ) (row : Row) (es : Es) → All (IsRowBody columns) es → MayWrite columns row
    → All (IsRowBody columns) (put int_cmp (pos n) (columns_body columns row) es)
bodies-replaced columns n row [] h m = All-cons (IsRowBody columns) (pos n, columns_body columns row) [] (written-body columns n row m) h
bodies-replaced columns n row (e ∷ es) h m =
    let body = columns_body columns row in
    elim (int_cmp (pos n) e.0) as (λ r. int_cmp (pos n) e.0 ≡ r → All (IsRowBody columns) (by_order r ((pos n, body) ∷ e ∷ es) ((e.0, body) ∷ es) (e ∷ put int_cmp (pos n) body es))) [
      | Less ↦ λ p. All-cons (IsRowBody columns) (pos n, body) (e ∷ es) (written-body columns n row m) h
      | Equal ↦ λ p. All-cons (IsRowBody columns) (e.0, body) es (subst (λ (z : ℤ). IsRowBody columns (z, body)) (sym (number-is e.0 n p)) (written-body columns n row m)) (All-tail (IsRowBody columns) e es h)
      | Greater ↦ λ p. All-cons (IsRowBody columns) e (put int_cmp (pos n) body es) (All-head (IsRowBody columns) e es h) (bodies-replaced columns n row es (All-tail (IsRowBody columns) e es h) m)
    ] refl
