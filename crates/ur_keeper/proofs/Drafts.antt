-- Rows with marks on those that are gone.
use Rattle.std.proofs.Common.{◌≡◌, ℕ, zero, suc, ◌+◌, ◌-◌, ◌<◌, ◌≤◌, Bool, true, false, ◌||◌, ◌==◌, List, [], ◌∷◌, ◌++◌, length, get_or, set, take}
use Rattle.std.proofs.Common.{drop, refl, ap, ap₂, sym, subst, ◌∙◌, arith, length-set, slice_index, IsTrue}
use Rattle.std.proofs.lemmas.Bool.Decides.{nat_tests}
use Rattle.ur_values.specs.declared.schema.Numbered.{Numbered}
use Rattle.ur_values.specs.Store.{Row}
use Rattle.std.specs.List.Sorted.{IsStrictlyIncreasing}
use Rattle.ur_values.specs.Numbered.{numbers_of, next_number, has_number, add_row, put_row, drop_row, HaveRisingNumbers}
use Rattle.ur_keeper.specs.Drafts.{left}
use Rattle.ur_keeper.proofs.Rising.{Above, Rising, rising, drop-above, put-above, put-at, next-last}
use Rattle.std.proofs.Math.Seq.{take-length}
use Rattle.std.proofs.lemmas.List.{length-map, length-take}
use Rattle.ur_keeper.proofs.Keeping.{numbers-put, rises-added}

left-none : (rows : List Numbered) → left rows [] ≡ rows
left-none [] = refl
left-none (r ∷ rows) = refl

-- one more mark of a row that is not gone
pub left-marked : (rows : List Numbered) (gone : List Bool) → left rows (gone ++ false ∷ []) ≡ left rows gone
left-marked [] gone = refl
left-marked (r ∷ rows) [] = ap (λ rest. r ∷ rest) (left-none rows)
left-marked (r ∷ rows) (true ∷ gone) = left-marked rows gone
left-marked (r ∷ rows) (false ∷ gone) = ap (λ rest. r ∷ rest) (left-marked rows gone)

-- one more row
left-gone : (rows : List Numbered) (gone : List Bool) (i : ℕ) → get_or gone i false ≡ true → left (take (suc i) rows) gone ≡ left (take i rows) gone
left-gone [] gone zero g = refl
left-gone [] gone (suc i) g = refl
left-gone (r ∷ rows) [] i g = cc
left-gone (r ∷ rows) (true ∷ gone) zero g = refl
left-gone (r ∷ rows) (false ∷ gone) zero g = cc
left-gone (r ∷ rows) (true ∷ gone) (suc i) g = left-gone rows gone i g
left-gone (r ∷ rows) (false ∷ gone) (suc i) g = ap (λ rest. r ∷ rest) (left-gone rows gone i g)

take-one : (rows : List Numbered) (i : ℕ) (x : Numbered) → i < length rows → x ≡ get_or rows i x → take (suc i) rows ≡ take i rows ++ x ∷ []
take-one [] i x w e = absurd (omega arith)
take-one (r ∷ rows) zero x w e = ap (λ y. y ∷ []) (sym e)
take-one (r ∷ rows) (suc i) x w e = ap (λ rest. r ∷ rest) (take-one rows i x (omega arith) e)

left-there : (rows : List Numbered) (gone : List Bool) (i : ℕ) (x : Numbered) → i < length rows → x ≡ get_or rows i x → get_or gone i false ≡ false
    → left (take (suc i) rows) gone ≡ left (take i rows) gone ++ x ∷ []
left-there [] gone i x w e g = absurd (omega arith)
left-there (r ∷ rows) [] zero x w e g = ap (λ y. y ∷ []) (sym e)
left-there (r ∷ rows) [] (suc i) x w e g = ap (λ rest. r ∷ rest) (take-one rows i x (omega arith) e)
left-there (r ∷ rows) (true ∷ gone) zero x w e g = cc
left-there (r ∷ rows) (false ∷ gone) zero x w e g = ap (λ y. y ∷ []) (sym e)
left-there (r ∷ rows) (true ∷ gone) (suc i) x w e g = left-there rows gone i x (omega arith) e g
left-there (r ∷ rows) (false ∷ gone) (suc i) x w e g = ap (λ rest. r ∷ rest) (left-there rows gone i x (omega arith) e g)

-- ---- two places swapped

front-swapped : (ys : List Numbered) (k i : ℕ) (x y : Numbered) → k ≤ i → i < length ys → (k ≡ i → y ≡ x)
    → take (suc k) (set (set ys k x) i y) ≡ take k ys ++ x ∷ []
front-swapped [] k i x y b w e = absurd (omega arith)
front-swapped (z ∷ ys) zero zero x y b w e = ap (λ r. r ∷ []) (e refl)
front-swapped (z ∷ ys) zero (suc i) x y b w e = refl
front-swapped (z ∷ ys) (suc k) zero x y b w e = absurd (omega arith)
front-swapped (z ∷ ys) (suc k) (suc i) x y b w e = ap (λ rest. z ∷ rest) (front-swapped ys k i x y (omega arith) (omega arith) (λ s. e (ap suc s)))

rest-set : (ys : List Numbered) (i : ℕ) (y : Numbered) → drop (suc i) (set ys i y) ≡ drop (suc i) ys
rest-set [] i y = refl
rest-set (z ∷ ys) zero y = refl
rest-set (z ∷ ys) (suc i) y = rest-set ys i y

rest-swapped : (ys : List Numbered) (k i : ℕ) (x y : Numbered) → k ≤ i → drop (suc i) (set (set ys k x) i y) ≡ drop (suc i) ys
rest-swapped [] k i x y b = refl
rest-swapped (z ∷ ys) zero zero x y b = refl
rest-swapped (z ∷ ys) zero (suc i) x y b = rest-set ys i y
rest-swapped (z ∷ ys) (suc k) zero x y b = absurd (omega arith)
rest-swapped (z ∷ ys) (suc k) (suc i) x y b = rest-swapped ys k i x y (omega arith)

-- ys began as rows: what is left of the first i of them stands in the first k places, and from i on they are as they were
pub record Closes (rows : List Numbered) (gone : List Bool) (ys : List Numbered) (k i : ℕ) : Type 0 where
  pub front : take k ys ≡ left (take i rows) gone
  pub rest : drop i ys ≡ drop i rows
  pub behind : k ≤ i
  pub long : length ys ≡ length rows

get-drop : (ys : List Numbered) (i : ℕ) (d : Numbered) → get_or (drop i ys) 0 d ≡ get_or ys i d
get-drop [] zero d = refl
get-drop [] (suc i) d = refl
get-drop (y ∷ ys) zero d = refl
get-drop (y ∷ ys) (suc i) d = get-drop ys i d

get-any : (ys : List Numbered) (k : ℕ) (d e : Numbered) → k < length ys → get_or ys k d ≡ get_or ys k e
get-any [] k d e w = absurd (omega arith)
get-any (z ∷ ys) zero d e w = refl
get-any (z ∷ ys) (suc k) d e w = get-any ys k d e (omega arith)

drop-next : (ys rows : List Numbered) (i : ℕ) → drop i ys ≡ drop i rows → drop (suc i) ys ≡ drop (suc i) rows
drop-next ys rows i e = sym (drop-tail ys i) ∙ ap (drop 1) e ∙ drop-tail rows i
  where
    drop-tail : (xs : List Numbered) (i : ℕ) → drop 1 (drop i xs) ≡ drop (suc i) xs
    drop-tail [] zero = refl
    drop-tail [] (suc i) = refl
    drop-tail (x ∷ xs) zero = refl
    drop-tail (x ∷ xs) (suc i) = drop-tail xs i

closes-gone : (rows : List Numbered) (gone : List Bool) (ys : List Numbered) (k i : ℕ) → Closes rows gone ys k i → get_or gone i false ≡ true
    → Closes rows gone ys k (i + 1)
closes-gone rows gone ys k i h g =
    let next : suc i ≡ i + 1 = omega arith in
    subst (λ n. Closes rows gone ys k n) next record {
      front = h.front ∙ sym (left-gone rows gone i g);
      rest = drop-next ys rows i h.rest;
      behind = omega (arith, h.behind);
      long = h.long;
    }

closes-there : (rows : List Numbered) (gone : List Bool) (ys zs : List Numbered) (k i : ℕ) (x y : Numbered) → Closes rows gone ys k i → i < length ys
    → get_or gone i false ≡ false → x ≡ get_or ys i x → y ≡ get_or ys k y
    → length zs ≡ length ys → zs ≡ set (set ys k x) i y → Closes rows gone zs (k + 1) (i + 1)
closes-there rows gone ys zs k i x y h w g xs yk l s =
    let next : suc i ≡ i + 1 = omega arith in
    let next' : suc k ≡ k + 1 = omega arith in
    let same : k ≡ i → y ≡ x = λ e. yk ∙ get-any ys k y x (omega (arith, h.behind)) ∙ ap (λ n. get_or ys n x) e ∙ sym xs in
    let old : x ≡ get_or rows i x = xs ∙ sym (get-drop ys i x) ∙ ap (λ r. get_or r 0 x) h.rest ∙ get-drop rows i x in
    let here : Closes rows gone zs (suc k) (suc i) =
    record {
      front =
          ap (take (suc k)) s ∙ front-swapped ys k i x y h.behind w same ∙ ap (λ f. f ++ x ∷ []) h.front ∙ sym (left-there rows gone i x (omega (arith, h.long)) old g);
      rest = ap (drop (suc i)) s ∙ rest-swapped ys k i x y h.behind ∙ drop-next ys rows i h.rest;
      behind = omega (arith, h.behind);
      long = l ∙ h.long;
    } in
    subst (λ n. Closes rows gone zs n (i + 1)) next' (subst (λ n. Closes rows gone zs (suc k) n) next here)

pub closes-swapped : (rows : List Numbered) (gone : List Bool) (ys zs out : List Numbered) (k kept i : ℕ) → Closes rows gone ys k i → i < length ys
    → get_or gone i false ≡ false
    → ((d : Numbered) → zs ≡ set (set ys k (get_or ys i d)) i (get_or ys k d)) → out ≡ zs → kept ≡ k + 1 → Closes rows gone out kept (i + 1)
closes-swapped rows gone [] zs out k kept i h w g s o e = absurd (omega arith)
closes-swapped rows gone (z ∷ ys) zs out k kept i h w g s o e =
    let all = z ∷ ys in
    let x = get_or all i z in
    let y = get_or all k z in
    let long : length zs ≡ length all = ap length (s z) ∙ length-set (set all k x) i y ∙ length-set all k x in
    let here = closes-there rows gone all zs k i x y h w g (get-any all i z x w) (get-any all k z y (omega (arith, h.behind))) long (s z) in
    subst (λ n. Closes rows gone out n (i + 1)) (sym e) (subst (λ l. Closes rows gone l (k + 1) (i + 1)) (sym o) here)

pub closes-kept : (rows : List Numbered) (gone : List Bool) (ys out : List Numbered) (k kept i : ℕ) → Closes rows gone ys k i → get_or gone i false ≡ true
    → out ≡ ys → kept ≡ k → Closes rows gone out kept (i + 1)
closes-kept rows gone ys out k kept i h g o e =
    subst (λ n. Closes rows gone out n (i + 1)) (sym e) (subst (λ l. Closes rows gone l k (i + 1)) (sym o) (closes-gone rows gone ys k i h g))

-- ---- a copy of what is left

pub copied-there : (rows : List Numbered) (gone : List Bool) (i : ℕ) (x y : Numbered) (copied out : List Numbered) → i < length rows → x ≡ get_or rows i x
    → get_or gone i false ≡ false → copied ≡ left (take i rows) gone
    → out ≡ copied ++ y ∷ [] → y ≡ x → out ≡ left (take (i + 1) rows) gone
copied-there rows gone i x y copied out w e g h o s =
    let next : suc i ≡ i + 1 = omega arith in
    o ∙ ap₂ (λ (l : List Numbered) (r : Numbered). l ++ r ∷ []) h s ∙ sym (left-there rows gone i x w e g) ∙ ap (λ n. left (take n rows) gone) next

pub copied-gone : (rows : List Numbered) (gone : List Bool) (i : ℕ) (copied out : List Numbered) → get_or gone i false ≡ true → copied ≡ left (take i rows) gone
    → out ≡ copied → out ≡ left (take (i + 1) rows) gone
copied-gone rows gone i copied out g h o =
    let next : suc i ≡ i + 1 = omega arith in
    o ∙ h ∙ sym (left-gone rows gone i g) ∙ ap (λ n. left (take n rows) gone) next

-- ---- a row is marked as gone

above-left : (n : ℕ) (rows : List Numbered) (gone : List Bool) → Above n rows → Above n (left rows gone)
above-left n [] gone a = tt
above-left n (r ∷ rows) [] a = a
above-left n (r ∷ rows) (true ∷ gone) a = above-left n rows gone a.1
above-left n (r ∷ rows) (false ∷ gone) a = (a.0, above-left n rows gone a.1)

above-here : (n : ℕ) (rows : List Numbered) (i : ℕ) → Above n rows → i < length rows → n < slice_index (numbers_of rows) i
above-here n [] i a h = absurd (omega arith)
above-here n (r ∷ rows) zero a h = a.0
above-here n (r ∷ rows) (suc i) a h = above-here n rows i a.1 (omega arith)

drop-marked : (rows : List Numbered) (gone : List Bool) (i n : ℕ) → Rising rows → i < length rows → i < length gone → slice_index (numbers_of rows) i ≡ n
    → left rows (set gone i true) ≡ drop_row (left rows gone) n
drop-marked [] gone i n s w v e = absurd (omega arith)
drop-marked (r ∷ rows) [] i n s w v e = absurd (omega arith)
drop-marked (r ∷ rows) (true ∷ gone) zero n s w v e = sym (drop-above n (left rows gone) (above-left n rows gone (subst (λ k. Above k rows) e s.0)))
drop-marked (r ∷ rows) (false ∷ gone) zero n s w v e =
    let same : (r.number == n) ≡ true = grind (arith, nat_tests) in
    rw same (sym (drop-above n (left rows gone) (above-left n rows gone (subst (λ k. Above k rows) e s.0))))
drop-marked (r ∷ rows) (true ∷ gone) (suc i) n s w v e = drop-marked rows gone i n s.1 (omega arith) (omega arith) e
drop-marked (r ∷ rows) (false ∷ gone) (suc i) n s w v e =
    let low = above-here r.number rows i s.0 (omega arith) in
    let other : (r.number == n) ≡ false = grind (arith, nat_tests) in
    rw other (ap (λ rest. r ∷ rest) (drop-marked rows gone i n s.1 (omega arith) (omega arith) e))

put-marked : (rows : List Numbered) (gone : List Bool) (i n : ℕ) (row : Row) → Rising rows → i < length rows → slice_index (numbers_of rows) i ≡ n
    → left (set rows i (record { number = n; row = row })) gone ≡ put_row (left rows gone) n row
put-marked [] gone i n row s w e = absurd (omega arith)
put-marked (r ∷ rows) [] i n row s w e = left-none (set (r ∷ rows) i (record { number = n; row = row })) ∙ put-at (r ∷ rows) i n row s w e
put-marked (r ∷ rows) (true ∷ gone) zero n row s w e = sym (put-above n row (left rows gone) (above-left n rows gone (subst (λ k. Above k rows) e s.0)))
put-marked (r ∷ rows) (false ∷ gone) zero n row s w e =
    let same : (r.number == n) ≡ true = grind (arith, nat_tests) in
    rw same (ap (λ rest. record { number = n; row = row } ∷ rest) (sym (put-above n row (left rows gone) (above-left n rows gone (subst (λ k. Above k rows) e s.0)))))
put-marked (r ∷ rows) (true ∷ gone) (suc i) n row s w e = put-marked rows gone i n row s.1 (omega arith) e
put-marked (r ∷ rows) (false ∷ gone) (suc i) n row s w e =
    let low = above-here r.number rows i s.0 (omega arith) in
    let other : (r.number == n) ≡ false = grind (arith, nat_tests) in
    rw other (ap (λ rest. r ∷ rest) (put-marked rows gone i n row s.1 (omega arith) e))

pub row-marked : (rows : List Numbered) (gone : List Bool) (i n : ℕ) → HaveRisingNumbers rows → i < length rows → i < length gone
    → slice_index (numbers_of rows) i ≡ n → left rows (set gone i true) ≡ drop_row (left rows gone) n
row-marked rows gone i n h w v e = drop-marked rows gone i n (rising rows h) w v e

-- a number that is left is there
pub left-has : (rows : List Numbered) (gone : List Bool) (n : ℕ) → IsTrue (has_number (left rows gone) n) → IsTrue (has_number rows n)
left-has [] gone n h = h
left-has (r ∷ rows) [] n h = h
left-has (r ∷ rows) (true ∷ gone) n h = or-right (r.number == n) (has_number rows n) (left-has rows gone n h)
  where
    or-right : (a b : Bool) → IsTrue b → IsTrue (a || b)
    or-right true b h = refl
    or-right false b h = h
left-has (r ∷ rows) (false ∷ gone) n h = go (r.number == n) (left-has rows gone n) h
  where
    go : (b : Bool) → (IsTrue (has_number (left rows gone) n) → IsTrue (has_number rows n)) → IsTrue (b || has_number (left rows gone) n)
        → IsTrue (b || has_number rows n)
    go true f h = refl
    go false f h = f h

-- ---- the end is closed

-- marks beyond the rows say nothing
pub left-short : (rows : List Numbered) (gone : List Bool) (n : ℕ) → length rows ≤ n → left rows (take n gone) ≡ left rows gone
left-short [] gone n h = refl
left-short (r ∷ rows) gone zero h = absurd (omega arith)
left-short (r ∷ rows) [] (suc n) h = refl
left-short (r ∷ rows) (true ∷ gone) (suc n) h = left-short rows gone n (omega arith)
left-short (r ∷ rows) (false ∷ gone) (suc n) h = ap (λ rest. r ∷ rest) (left-short rows gone n (omega arith))

pub gone-within : (gone : List Bool) (i : ℕ) → get_or gone i false ≡ true → i < length gone
gone-within [] i g = cc
gone-within (b ∷ gone) zero g = omega arith
gone-within (b ∷ gone) (suc i) g = omega (arith, gone-within gone i g)

above-take : (m n : ℕ) (rows : List Numbered) → Above m rows → Above m (take n rows)
above-take m zero rows a = tt
above-take m (suc n) [] a = tt
above-take m (suc n) (r ∷ rows) a = (a.0, above-take m n rows a.1)

rising-take : (n : ℕ) (rows : List Numbered) → Rising rows → Rising (take n rows)
rising-take zero rows s = tt
rising-take (suc n) [] s = tt
rising-take (suc n) (r ∷ rows) s = (above-take r.number n rows s.0, rising-take n rows s.1)

rises-at : (rows : List Numbered) → Rising rows → (k : ℕ) → suc k < length rows → slice_index (numbers_of rows) k < slice_index (numbers_of rows) (suc k)
rises-at [] s k w = absurd (omega arith)
rises-at (r ∷ rows) s zero w = above-here r.number rows 0 s.0 (omega arith)
rises-at (r ∷ rows) s (suc k) w = rises-at rows s.1 k (omega arith)

rises : (rows : List Numbered) → Rising rows → HaveRisingNumbers rows
rises rows s k w =
    let next : suc k ≡ k + 1 = omega arith in
    let within : k + 1 < length rows = simp length-map at w in
    subst (λ m. slice_index (numbers_of rows) k < slice_index (numbers_of rows) m) next (rises-at rows s k (omega arith))

pub take-rises : (n : ℕ) (rows : List Numbered) → HaveRisingNumbers rows → HaveRisingNumbers (take n rows)
take-rises n rows h = rises (take n rows) (rising-take n rows (rising rows h))

-- without the last row, which is gone
pub left-cut : (rows : List Numbered) (gone : List Bool) → length gone ≤ length rows → get_or gone (length rows - 1) false ≡ true
    → left (take (length rows - 1) rows) (take (length rows - 1) gone) ≡ left rows gone
left-cut rows gone m g =
    let within : length rows - 1 < length gone = gone-within gone (length rows - 1) g in
    let whole : suc (length rows - 1) ≡ length rows = omega arith in
    left-short (take (length rows - 1) rows) gone (length rows - 1) (omega (arith, length-take (length rows - 1) rows))
    ∙ sym (left-gone rows gone (length rows - 1) g) ∙ ap (λ n. left (take n rows) gone) whole ∙ ap (λ xs. left xs gone) (take-length rows)

-- the rows without some that are gone at their end
pub record ClosesEnd (all : List Numbered) (marks : List Bool) (rows : List Numbered) (gone : List Bool) : Type 0 where
  pub same : left rows gone ≡ left all marks
  pub rises : HaveRisingNumbers rows
  pub marked : length gone ≤ length rows

pub end-first : (rows : List Numbered) (gone cut : List Bool) (n : ℕ) → n ≡ length rows → cut ≡ take n gone → HaveRisingNumbers rows
    → ClosesEnd rows gone rows cut
end-first rows gone cut n l e h =
    let whole : cut ≡ take (length rows) gone = e ∙ ap (λ k. take k gone) l in
    record {
      same = ap (left rows) whole ∙ left-short rows gone (length rows) (omega arith);
      rises = h;
      marked = omega (arith, ap length whole, length-take (length rows) gone);
    }

pub end-next : (all : List Numbered) (marks : List Bool) (rows : List Numbered) (gone : List Bool) (rows' : List Numbered) (gone' : List Bool) (m n : ℕ)
    → ClosesEnd all marks rows gone → get_or gone (length rows - 1) false ≡ true
    → m ≡ length rows - 1 → rows' ≡ take m rows → n ≡ length rows' → gone' ≡ take n gone → ClosesEnd all marks rows' gone'
end-next all marks rows gone rows' gone' m n h g ml r nl e =
    let cut : rows' ≡ take (length rows - 1) rows = r ∙ ap (λ k. take k rows) ml in
    let shorter : length rows' ≡ length rows - 1 = omega (arith, ap length cut, length-take (length rows - 1) rows) in
    let cut' : gone' ≡ take (length rows - 1) gone = e ∙ ap (λ k. take k gone) (nl ∙ shorter) in
    record {
      same = ap₂ left cut cut' ∙ left-cut rows gone h.marked g ∙ h.same;
      rises = subst (λ xs. HaveRisingNumbers xs) (sym cut) (take-rises (length rows - 1) rows h.rises);
      marked = omega (arith, ap length cut', length-take (length rows - 1) gone);
    }

pub end-not-empty : (rows : List Numbered) (gone : List Bool) → length gone ≤ length rows → get_or gone (length rows - 1) false ≡ true → 1 ≤ length rows
end-not-empty rows gone m g = omega (arith, gone-within gone (length rows - 1) g)

-- ---- a row is added

left-push : (rows : List Numbered) (gone : List Bool) (x : Numbered) → length gone ≤ length rows → left (rows ++ x ∷ []) gone ≡ left rows gone ++ x ∷ []
left-push [] [] x m = refl
left-push [] (b ∷ gone) x m = absurd (omega arith)
left-push (r ∷ rows) [] x m = refl
left-push (r ∷ rows) (true ∷ gone) x m = left-push rows gone x (omega arith)
left-push (r ∷ rows) (false ∷ gone) x m = ap (λ rest. r ∷ rest) (left-push rows gone x (omega arith))

rising-left : (rows : List Numbered) (gone : List Bool) → Rising rows → Rising (left rows gone)
rising-left [] gone s = tt
rising-left (r ∷ rows) [] s = s
rising-left (r ∷ rows) (true ∷ gone) s = rising-left rows gone s.1
rising-left (r ∷ rows) (false ∷ gone) s = (above-left r.number rows gone s.0, rising-left rows gone s.1)

-- where the last row is left, the next number is the same
pub next-left : (rows : List Numbered) (gone : List Bool) → Rising rows → get_or gone (length rows - 1) false ≡ false
    → next_number (left rows gone) ≡ next_number rows
next-left [] gone s g = refl
next-left (r ∷ rows) gone s g =
    let all = r ∷ rows in
    let n = length all - 1 in
    let last = get_or all n r in
    let whole : suc n ≡ length all = omega arith in
    let there : last ≡ get_or all n last = get-any all n r last (omega arith) in
    let split : all ≡ take n all ++ last ∷ [] = sym (take-length all) ∙ ap (λ k. take k all) (sym whole) ∙ take-one all n last (omega arith) there in
    let split' : left all gone ≡ left (take n all) gone ++ last ∷ [] = ap (λ xs. left xs gone) (sym (take-length all)) ∙ ap (λ k. left (take k all) gone) (sym whole) ∙ left-there all gone n last (omega arith) there g in
    let first : next_number (left all gone) ≡ last.number + 1 = ap next_number split' ∙ next-last (left (take n all) gone) last (subst (λ xs. Rising xs) split' (rising-left all gone s)) in
    let second : next_number all ≡ last.number + 1 = ap next_number split ∙ next-last (take n all) last (subst (λ xs. Rising xs) split s) in
    first ∙ sym second

-- ---- the calls

pub left-of : (rows now : List Numbered) (gone : List Bool) → rows ≡ now → gone ≡ [] → left rows gone ≡ now
left-of rows now gone r g = ap₂ left r g ∙ left-none now

pub row-added : (now rows seen ys : List Numbered) (gone : List Bool) (number : ℕ) (row : Row) → left rows gone ≡ now → seen ≡ rows → HaveRisingNumbers rows
    → length gone ≤ length rows → get_or gone (length rows - 1) false ≡ false
    → number ≡ next_number seen → ys ≡ rows ++ record { number = number; row = row } ∷ [] → left ys gone ≡ add_row now row
row-added now rows seen ys gone number row v s h m l n e =
    let last : List Numbered → ℕ → List Numbered = λ rs k. rs ++ record { number = k; row = row } ∷ [] in
    let next : number ≡ next_number now = n ∙ ap next_number s ∙ sym (next-left rows gone (rising rows h) l) ∙ ap next_number v in
    ap (λ xs. left xs gone) e ∙ left-push rows gone (record { number = number; row = row }) m ∙ ap₂ last v next

pub push-rises : (rows seen ys : List Numbered) (number : ℕ) (row : Row) → seen ≡ rows → HaveRisingNumbers rows → number ≡ next_number seen
    → ys ≡ rows ++ record { number = number; row = row } ∷ [] → HaveRisingNumbers ys
push-rises rows seen ys number row s h n e =
    let last : ℕ → List Numbered = λ k. rows ++ record { number = k; row = row } ∷ [] in
    let added : ys ≡ add_row rows row = e ∙ ap last (n ∙ ap next_number s) in
    subst (λ xs. HaveRisingNumbers xs) (sym added) (rises-added rows row h)

pub row-put : (now rows seen : List Numbered) (gone : List Bool) (at n : ℕ) (row : Row) → left rows gone ≡ now → seen ≡ rows → HaveRisingNumbers rows
    → at < length seen → slice_index (numbers_of seen) at ≡ n
    → left (set rows at (record { number = n; row = row })) gone ≡ put_row now n row
row-put now rows seen gone at n row v s h w f =
    let within : at < length rows = subst (λ xs. at < length xs) s w in
    let found : slice_index (numbers_of rows) at ≡ n = subst (λ xs. slice_index (numbers_of xs) at ≡ n) s f in
    put-marked rows gone at n row (rising rows h) within found ∙ ap (λ xs. put_row xs n row) v

pub set-rises : (rows seen : List Numbered) (at n : ℕ) (row : Row) → seen ≡ rows → HaveRisingNumbers rows → at < length seen
    → slice_index (numbers_of seen) at ≡ n → HaveRisingNumbers (set rows at (record { number = n; row = row }))
set-rises rows seen at n row s h w f =
    let within : at < length rows = subst (λ xs. at < length xs) s w in
    let found : slice_index (numbers_of rows) at ≡ n = subst (λ xs. slice_index (numbers_of xs) at ≡ n) s f in
    subst (λ xs. IsStrictlyIncreasing xs) (sym (ap numbers_of (put-at rows at n row (rising rows h) within found) ∙ numbers-put rows n row)) h

pub row-removed : (now rows seen : List Numbered) (gone marked : List Bool) (at n : ℕ) → left rows gone ≡ now → left rows marked ≡ left rows gone → seen ≡ rows
    → HaveRisingNumbers rows → at < length seen → length seen ≤ length marked
    → slice_index (numbers_of seen) at ≡ n → left rows (set marked at true) ≡ drop_row now n
row-removed now rows seen gone marked at n v m s h w l f =
    let within : at < length rows = subst (λ xs. at < length xs) s w in
    let found : slice_index (numbers_of rows) at ≡ n = subst (λ xs. slice_index (numbers_of xs) at ≡ n) s f in
    row-marked rows marked at n h within (omega arith) found ∙ ap (λ xs. drop_row xs n) (m ∙ v)
