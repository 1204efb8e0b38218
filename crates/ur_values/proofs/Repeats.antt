-- Keys that repeat stand side by side once the rows are sorted.
use Rattle.std.proofs.Common.{◌≡◌, ℕ, ◌+◌, ◌-◌, ◌<◌, Bool, true, false, ◌||◌, List, [], ◌∷◌, map, length, get_or, refl, sym, ap, ◌∙◌, arith}
use Rattle.std.specs.declared.cmp.Ordering.{Ordering}
use Rattle.std.specs.declared.cmp.Ordering.TheVariants.{Less, Equal, Greater}
use Rattle.std.specs.Ordering.{is_lt, is_eq, eq_by_cmp, on, ordering_reverse}
use Rattle.std.specs.Bool.{OnTrue, OnFalse}
use Rattle.std.specs.Borrow.{Bor}
use Rattle.std.specs.Cmp.{IsTotalOrder, IsStrictWeakOrder}
use Rattle.std.specs.Cmp.Lexicographic.{slice_cmp}
use Rattle.std.specs.List.{AllByRecursion, IsDistinct, list_any}
use Rattle.std.specs.List.Sorted.{IsPermutation, IsSortedBy}
use Rattle.std.proofs.lemmas.Cmp.{lists_total, on_total, eq_by_cmp_equiv}
use Rattle.std.proofs.lemmas.List.{get_or_default}
use Rattle.std.proofs.lemmas.List.Sorted.{IsPermutation-sym, ranks_by}
use Rattle.std.proofs.lemmas.Map.Keys.{sorted_from_all_adjacent, IsDistinct-from_sorted, IsDistinct-IsPermutation, apart_from_distinct}
use Rattle.ur_values.specs.declared.value.Value.{Value}
use Rattle.ur_values.specs.Order.{value_cmp, values_eq}
use Rattle.ur_values.specs.Keys.{key_of, repeats}
use Rattle.ur_values.specs.Store.{Row}
use Rattle.ur_values.proofs.Order.{value_cmp_total, values_eq_tie}
use Rattle.ur_values.specs.KeyOrder.{key_cmp, agree}
use Rattle.ur_values.specs.KeyOrder.{lent_rows}

neither : (a b : Bool) → (a || b) ≡ false → (a ≡ false) × (b ≡ false)
neither true b e = cc
neither false b e = (refl, e)

module _ {X : Type 0} (key : X → List Value) where
  abbrev order : X → X → Ordering
  order = on key (slice_cmp value_cmp)

  order_total : IsTotalOrder order
  order_total = on_total key (lists_total value_cmp_total)

  none_equal : (k : List Value) (xs : List X) → list_any (values_eq k) (map key xs) ≡ false
      → AllByRecursion (λ y. is_eq (slice_cmp value_cmp k (key y)) ≡ false) xs
  none_equal k [] h = tt
  none_equal k (y ∷ ys) h =
      let p = neither (values_eq k (key y)) (list_any (values_eq k) (map key ys)) h in (sym (values_eq_tie k (key y)) ∙ p.0, none_equal k ys p.1)

  none_equal_back : (k : List Value) (xs : List X) → AllByRecursion (λ y. is_eq (slice_cmp value_cmp k (key y)) ≡ false) xs
      → list_any (values_eq k) (map key xs) ≡ false
  none_equal_back k [] h = refl
  none_equal_back k (y ∷ ys) h = ap (λ b. b || list_any (values_eq k) (map key ys)) (values_eq_tie k (key y) ∙ h.0) ∙ none_equal_back k ys h.1

  distinct_from : (xs : List X) → repeats (map key xs) ≡ false → IsDistinct (eq_by_cmp order) xs
  unfolding IsDistinct
  distinct_from [] h = tt
  distinct_from (x ∷ xs) h =
      let p = neither (list_any (values_eq (key x)) (map key xs)) (repeats (map key xs)) h in (none_equal (key x) xs p.0, distinct_from xs p.1)

  from_distinct : (xs : List X) → IsDistinct (eq_by_cmp order) xs → repeats (map key xs) ≡ false
  unfolding IsDistinct
  from_distinct [] h = refl
  from_distinct (x ∷ xs) h = ap (λ b. b || repeats (map key xs)) (none_equal_back (key x) xs h.0) ∙ from_distinct xs h.1

  less : (o p : Ordering) → p ≡ ordering_reverse o → is_eq o ≡ false → is_lt p ≡ false → o ≡ Less
  less Less p r e f = refl
  less Equal p r e f = cc
  less Greater p r e f = cc

  rising : (ys : List X) (d : X) → IsSortedBy (λ x y. is_lt (order x y)) ys
      → ((k : ℕ) → k + 1 < length ys → (d : X) → is_eq (order (get_or ys k d) (get_or ys (k + 1) d)) ≡ false)
      → IsDistinct (eq_by_cmp order) ys
  rising ys d sorted apart =
      IsDistinct-from_sorted order ys
      (sorted_from_all_adjacent order_total ys d (λ k h. less (order (get_or ys k d) (get_or ys (k + 1) d)) (order (get_or ys (k + 1) d) (get_or ys k d))
      (order_total.antisymm (get_or ys (k + 1) d) (get_or ys k d)) (apart k h d) (sorted k d (omega arith) h)))

  distinct : (ys : List X) → IsSortedBy (λ x y. is_lt (order x y)) ys
      → ((k : ℕ) → k + 1 < length ys → (d : X) → is_eq (order (get_or ys k d) (get_or ys (k + 1) d)) ≡ false)
      → IsDistinct (eq_by_cmp order) ys
  unfolding IsDistinct
  distinct [] sorted apart = tt
  distinct (y ∷ ys) sorted apart = rising (y ∷ ys) y sorted apart

  clash : (ys : List X) (k : ℕ) → k + 1 < length ys → ((d : X) → is_eq (order (get_or ys k d) (get_or ys (k + 1) d)) ≡ true) → IsDistinct (eq_by_cmp order) ys
      → ⊥
  clash [] k h tie d = absurd (omega arith)
  clash (y ∷ ys) k h tie d = let e = apart_from_distinct (eq_by_cmp order) (y ∷ ys) k (k + 1) y d (omega arith) h in let f = tie y in cc

  -- what a sort and a look at neighbours tell of the rows as they stood
  settled : (xs ys : List X) → IsPermutation xs ys → IsSortedBy (λ x y. is_lt (order x y)) ys → (b : Bool)
      → OnTrue b ((k : ℕ) × (k + 1 < length ys) × ((d : X) → is_eq (order (get_or ys k d) (get_or ys (k + 1) d)) ≡ true))
      → OnFalse b ((k : ℕ) → k + 1 < length ys → (d : X) → is_eq (order (get_or ys k d) (get_or ys (k + 1) d)) ≡ false)
      → b ≡ repeats (map key xs)
  settled xs ys moved sorted true tie apart = go (repeats (map key xs)) refl
    where
      go : (r : Bool) → repeats (map key xs) ≡ r → true ≡ r
      go true e = refl
      go false e =
          absurd (clash ys tie.0 tie.1 tie.2 (IsDistinct-IsPermutation (eq_by_cmp order) (eq_by_cmp_equiv order_total).symm xs ys moved (distinct_from xs e)))
  settled xs ys moved sorted false tie apart =
      sym (from_distinct xs (IsDistinct-IsPermutation (eq_by_cmp order) (eq_by_cmp_equiv order_total).symm ys xs (IsPermutation-sym xs ys moved) (distinct ys sorted apart)))

map_twice : {X Y Z : Type 0} (f : Y → Z) (g : X → Y) (xs : List X) → map (λ x. f (g x)) xs ≡ map f (map g xs)
map_twice f g [] = refl
map_twice f g (x ∷ xs) = ap (λ ys. f (g x) ∷ ys) (map_twice f g xs)

abbrev pub key_in : List ℕ → Bor Row → List Value
key_in key row = key_of key row.now

pub weak_order : (key : List ℕ) → IsStrictWeakOrder (λ (x : Bor Row) (y : Bor Row). is_lt (key_cmp key x.now y.now))
weak_order key = ranks_by (lists_total value_cmp_total) (key_in key)

pub settled_rows : (key : List ℕ) (xs ys : List (Bor Row)) → IsPermutation xs ys
    → IsSortedBy (λ (x : Bor Row) (y : Bor Row). is_lt (key_cmp key x.now y.now)) ys → (b : Bool)
    → OnTrue b ((k : ℕ) × (k + 1 < length ys) × ((d : Bor Row) → agree key (get_or ys k d) (get_or ys (k + 1) d) ≡ true))
    → OnFalse b ((k : ℕ) → k + 1 < length ys → (d : Bor Row) → agree key (get_or ys k d) (get_or ys (k + 1) d) ≡ false)
    → b ≡ repeats (map (key_of key) (lent_rows xs))
settled_rows key xs ys moved sorted b tie apart =
    settled (key_in key) xs ys moved sorted b tie apart ∙ ap repeats (map_twice (key_of key) (λ (row : Bor Row). row.now) xs)

pub side_by_side : (key : List ℕ) (rows : List (Bor Row)) (i : ℕ) (x y d : Bor Row) → 0 < i → i < length rows → x ≡ get_or rows (i - 1) x → y ≡ get_or rows i y
    → is_eq (key_cmp key x.now y.now) ≡ true
    → agree key (get_or rows (i - 1) d) (get_or rows (i - 1 + 1) d) ≡ true
side_by_side key rows i x y d low high p q e =
    let back : i - 1 + 1 ≡ i = omega arith in
    let left : get_or rows (i - 1) d ≡ x = get_or_default rows (i - 1) d x (omega arith) ∙ sym p in
    let right : get_or rows (i - 1 + 1) d ≡ y = ap (λ n. get_or rows n d) back ∙ get_or_default rows i d y high ∙ sym q in
    ap (λ (w : Bor Row). agree key w (get_or rows (i - 1 + 1) d)) left ∙ ap (agree key x) right ∙ e
