-- Entries in the order of their places, as the ordered map has them.
use Rattle.std.proofs.Common.{◌≡◌, ℕ, ℤ, Bool, true, false, not, cond, ◌&&◌, List, [], ◌∷◌, ◌++◌, Option, Some, None, refl, sym, ap, subst, ◌∙◌, T, if◌then◌else◌}
use Rattle.std.specs.declared.cmp.Ordering.{Ordering}
use Rattle.std.specs.declared.cmp.Ordering.TheVariants.{Less, Equal, Greater}
use Rattle.std.specs.Ordering.{int_cmp, int_eq, ordering_then, eq_by_cmp, is_eq, is_lt, match_ordering, ordering_reverse}
use Rattle.std.specs.Cmp.{IsTotalOrder, then_total, on_total, int_cmp_total, tied_itself, eq_by_cmp_equiv}
use Rattle.std.specs.List.{AllByRecursion}
use Rattle.std.specs.List.Sorted.{IsStrictlySortedBy}
use Rattle.std.specs.BTreeMap.{insert_entry, is_at}
use Rattle.std.specs.Map.{lookup, remove_entry, keys_of}
use Rattle.std.specs.FinMap.{entries, insert, remove, empty, from_sorted, is_sorted, find, put, IsAntisymmetric, int_cmp-IsAntisymmetric, same_entries_map, entries_sorted, entries-from_sorted, entries-insert, get-entries, get-empty, get-from_sorted, get-remove, same_map}
use Rattle.std.specs.FinMap.Entries.{where_key, below_all, by_order, is_sorted-put, is_sorted-where_key, find-where_key}
use Rattle.ur_keeper_bodies.specs.Bodies.{Place, BodyMap, place_cmp, of_table, bodies_of, body_at}

pub place_total : IsTotalOrder place_cmp
place_total = then_total (on_total (λ (p : Place). p.0) int_cmp_total) (on_total (λ (p : Place). p.1) int_cmp_total)

pub place_same : IsAntisymmetric place_cmp
place_same a b e =
    elim (int_cmp a.0 b.0) as (λ r. int_cmp a.0 b.0 ≡ r → ordering_then r (int_cmp a.1 b.1) ≡ Equal → a ≡ b) [
      | Less ↦ λ p h. absurd (subst (λ r. T (is_eq r)) (sym h) tt)
      | Equal ↦ λ p h. λ i. (int_cmp-IsAntisymmetric a.0 b.0 p i, int_cmp-IsAntisymmetric a.1 b.1 h i)
      | Greater ↦ λ p h. absurd (subst (λ r. T (is_eq r)) (sym h) tt)
    ] refl e

pub both : (a b : Bool) → T a → T b → T (a && b)
both true b p q = q
both false b p q = p

pub first : (a b : Bool) → T (a && b) → T a
first true b p = tt
first false b p = p

pub second : (a b : Bool) → T (a && b) → T b
second true b p = p
second false b p = absurd p

module _ {K X : Type 0} (R : K → K → Ordering) where
  pub insert-is-put : (es : List (K × X)) (k : K) (v : X) → insert_entry R es k v ≡ put R k v es
  insert-is-put [] k v = refl
  insert-is-put (e ∷ es) k v =
      elim (R k e.0) as (λ r. match_ordering r ((k, v) ∷ e ∷ es) ((e.0, v) ∷ es) (e ∷ insert_entry R es k v) ≡ by_order r ((k, v) ∷ e ∷ es) ((e.0, v) ∷ es) (e ∷ put R k v es)) [
        | Less ↦ refl
        | Equal ↦ refl
        | Greater ↦ ap (λ r. e ∷ r) (insert-is-put es k v)
      ]

  pub lookup-is-find : (es : List (K × X)) (k : K) → lookup (is_at (R k)) es ≡ find R k es
  lookup-is-find [] k = refl
  lookup-is-find (e ∷ es) k = ap (cond (is_eq (R k e.0)) (Some e.1)) (lookup-is-find es k)

  below-from : (x : K) (es : List (K × X)) → AllByRecursion (λ y. R x y ≡ Less) (keys_of es) → T (below_all R x es)
  below-from x [] h = tt
  below-from x (e ∷ es) h = both _ _ (subst (λ r. T (is_lt r)) (sym h.0) tt) (below-from x es h.1)

  pub sorted-from : (es : List (K × X)) → IsStrictlySortedBy R (keys_of es) → T (is_sorted R es)
  unfolding IsStrictlySortedBy
  sorted-from [] h = tt
  sorted-from (e ∷ es) h = both _ _ (below-from e.0 es h.0) (sorted-from es h.1)

  -- a key below all keys ties with none of them
  kept-all : (o : IsTotalOrder R) (k x : K) (es : List (K × X)) → R k x ≡ Equal → T (below_all R x es) → where_key R (λ y. not (eq_by_cmp R k y)) es ≡ es
  kept-all o k x [] t h = refl
  kept-all o k x (e ∷ es) t h =
      let less : R k e.0 ≡ Less = o.congr k x e.0 t ∙ less-is (R x e.0) (first _ _ h) in
      ap (λ r. cond (not (is_eq r)) (e ∷ where_key R (λ y. not (eq_by_cmp R k y)) es) (where_key R (λ y. not (eq_by_cmp R k y)) es)) less
      ∙ ap (λ r. e ∷ r) (kept-all o k x es t (second _ _ h))
    where
      less-is : (r : Ordering) → T (is_lt r) → r ≡ Less
      less-is Less p = refl
      less-is Equal p = absurd p
      less-is Greater p = absurd p

  pub removed-is : (o : IsTotalOrder R) (es : List (K × X)) (k : K) → T (is_sorted R es) → remove_entry (is_at (R k)) es ≡ where_key R (λ y. not (eq_by_cmp R k y)) es
  removed-is o [] k h = refl
  removed-is o (e ∷ es) k h =
      let rest = removed-is o es k (second _ _ h) in
      elim (R k e.0) as (λ r. R k e.0 ≡ r → cond (is_eq r) es (e ∷ remove_entry (is_at (R k)) es) ≡ cond (not (is_eq r)) (e ∷ where_key R (λ y. not (eq_by_cmp R k y)) es) (where_key R (λ y. not (eq_by_cmp R k y)) es)) [
        | Less ↦ λ p. ap (λ r. e ∷ r) rest
        | Equal ↦ λ p. sym (kept-all o k e.0 es p (first _ _ h))
        | Greater ↦ λ p. ap (λ r. e ∷ r) rest
      ] refl

-- ---- the ordered map as a map of bodies

abbrev pub Entries : Type 0
Entries = List (Place × List ℕ)

pub held-put : (es es' : Entries) (k : Place) (v : List ℕ) → T (is_sorted place_cmp es) → es' ≡ insert_entry place_cmp es k v → from_sorted {R = place_cmp} es' ≡ insert (from_sorted es) k v
held-put es es' k v h e =
    let is : es' ≡ put place_cmp k v es = e ∙ insert-is-put place_cmp es k v in
    let sorted : T (is_sorted place_cmp (put place_cmp k v es)) = is_sorted-put place_cmp place_total k v es h in
    ap (from_sorted {R = place_cmp}) is
    ∙ same_entries_map _ _ (entries-from_sorted place_cmp (put place_cmp k v es) sorted ∙ sym (entries-insert place_total (from_sorted es) k v ∙ ap (put place_cmp k v) (entries-from_sorted place_cmp es h)))

pub sorted-after-put : (es es' : Entries) (k : Place) (v : List ℕ) → T (is_sorted place_cmp es) → es' ≡ insert_entry place_cmp es k v → T (is_sorted place_cmp es')
sorted-after-put es es' k v h e = subst (λ (x : Entries). T (is_sorted place_cmp x)) (sym (e ∙ insert-is-put place_cmp es k v)) (is_sorted-put place_cmp place_total k v es h)

pub held-taken : (es es' : Entries) (k : Place) → T (is_sorted place_cmp es) → es' ≡ remove_entry (is_at (place_cmp k)) es → from_sorted {R = place_cmp} es' ≡ remove (from_sorted es) k
held-taken es es' k h e =
    let test = λ (y : Place). not (eq_by_cmp place_cmp k y) in
    let left = where_key place_cmp test in
    let is : es' ≡ left es = e ∙ removed-is place_cmp place_total es k h in
    ap (from_sorted {R = place_cmp}) is
    ∙ same_map place_total place_same _ _ (λ q.
    get-from_sorted place_cmp (left es) q (is_sorted-where_key place_cmp test es h)
    ∙ find-where_key place_cmp test q (λ x t. ap test (sym (place_same q x t))) es
    ∙ flipped (eq_by_cmp place_cmp k q) (find place_cmp q es)
    ∙ ap (λ b. cond b None (find place_cmp q es)) ((eq_by_cmp_equiv place_total).symm k q)
    ∙ ap (cond (eq_by_cmp place_cmp q k) None) (sym (get-from_sorted place_cmp es q h))
    ∙ sym (get-remove place_total (from_sorted es) k q))
  where
    flipped : (b : Bool) (o : Option (List ℕ)) → cond (not b) o None ≡ cond b None o
    flipped true o = refl
    flipped false o = refl

pub sorted-after-taken : (es es' : Entries) (k : Place) → T (is_sorted place_cmp es) → es' ≡ remove_entry (is_at (place_cmp k)) es → T (is_sorted place_cmp es')
sorted-after-taken es es' k h e = subst (λ (x : Entries). T (is_sorted place_cmp x)) (sym (e ∙ removed-is place_cmp place_total es k h)) (is_sorted-where_key place_cmp _ es h)

pub held-one : (es : Entries) (tab num : ℤ) → T (is_sorted place_cmp es) → lookup (is_at (place_cmp (tab, num))) es ≡ body_at (from_sorted es) tab num
held-one es tab num h = lookup-is-find place_cmp es (tab, num) ∙ sym (get-entries (from_sorted es) (tab, num) ∙ ap (find place_cmp (tab, num)) (entries-from_sorted place_cmp es h))

pub held-table : (es : Entries) (tab : ℤ) → T (is_sorted place_cmp es) → of_table tab es ≡ bodies_of (from_sorted es) tab
held-table es tab h = ap (of_table tab) (sym (entries-from_sorted place_cmp es h))

pub empty-sorted : from_sorted {K = Place} {X = List ℕ} {R = place_cmp} [] ≡ empty
empty-sorted = same_map place_total place_same _ _ (λ q. get-from_sorted place_cmp [] q tt ∙ sym (get-empty place_cmp q))

below-is : (r : Ordering) → T (is_lt r) → r ≡ Less
below-is Less p = refl
below-is Equal p = absurd p
below-is Greater p = absurd p

-- the last of entries in order is put at the end
module _ {K X : Type 0} (R : K → K → Ordering) (o : IsTotalOrder R) where
  met : (x : K) (k : K) (v : X) (rest es : List (K × X)) → T (below_all R x (es ++ (k, v) ∷ rest)) → R x k ≡ Less
  met x k v rest [] b = below-is _ (first _ _ b)
  met x k v rest (f ∷ es) b = met x k v rest es (second _ _ b)

  pub put-at-end : (es : List (K × X)) (k : K) (v : X) (rest : List (K × X)) → T (is_sorted R (es ++ (k, v) ∷ rest)) → put R k v es ≡ es ++ (k, v) ∷ []
  put-at-end [] k v rest h = refl
  put-at-end (e ∷ es) k v rest h =
      let above : R k e.0 ≡ Greater = o.antisymm k e.0 ∙ ap ordering_reverse (met e.0 k v rest es (first _ _ h)) in
      ap (λ r. by_order r ((k, v) ∷ e ∷ es) ((e.0, v) ∷ es) (e ∷ put R k v es)) above
      ∙ ap (λ r. e ∷ r) (put-at-end es k v rest (second _ _ h))

put-last : (es : Entries) (k : Place) (v : List ℕ) (rest : Entries) → T (is_sorted place_cmp (es ++ (k, v) ∷ rest)) → put place_cmp k v es ≡ es ++ (k, v) ∷ []
put-last = put-at-end place_cmp place_total

pub sorted-front : (es rest : Entries) → T (is_sorted place_cmp (es ++ rest)) → T (is_sorted place_cmp es)
sorted-front [] rest h = tt
sorted-front (e ∷ es) rest h = both _ _ (below es (first _ _ h)) (sorted-front es rest (second _ _ h))
  where
    below : (es : Entries) → T (below_all place_cmp e.0 (es ++ rest)) → T (below_all place_cmp e.0 es)
    below [] b = tt
    below (f ∷ es) b = both _ _ (first _ _ b) (below es (second _ _ b))

-- one entry more of a copy
pub copied-more : (all es es' : Entries) (k : Place) (v : List ℕ) (rest : Entries) → T (is_sorted place_cmp all) → es ++ (k, v) ∷ rest ≡ all → es' ≡ insert_entry place_cmp es k v → es' ++ rest ≡ all
copied-more all es es' k v rest h e is =
    ap (λ (x : Entries). x ++ rest) (is ∙ insert-is-put place_cmp es k v ∙ put-last es k v rest (subst (λ (x : Entries). T (is_sorted place_cmp x)) (sym e) h))
    ∙ group es ∙ e
  where
    group : (es : Entries) → (es ++ (k, v) ∷ []) ++ rest ≡ es ++ (k, v) ∷ rest
    group [] = refl
    group (x ∷ es) = ap (λ r. x ∷ r) (group es)

-- one entry more of a table
pub read-more : (tab : ℤ) (found : List (ℤ × List ℕ)) (k : Place) (v : List ℕ) (rest : Entries) (all : List (ℤ × List ℕ)) → k.0 ≡ tab → found ++ of_table tab ((k, v) ∷ rest) ≡ all → (found ++ (k.1, v) ∷ []) ++ of_table tab rest ≡ all
read-more tab found k v rest all is e =
    group found ∙ ap (λ b. found ++ (if b then (k.1, v) ∷ of_table tab rest else of_table tab rest)) (sym same) ∙ e
  where
    same : int_eq k.0 tab ≡ true
    same = subst (λ (x : ℤ). int_eq k.0 x ≡ true) is (ap is_eq (tied_itself int_cmp_total k.0))

    group : (xs : List (ℤ × List ℕ)) → (xs ++ (k.1, v) ∷ []) ++ of_table tab rest ≡ xs ++ (k.1, v) ∷ of_table tab rest
    group [] = refl
    group (x ∷ xs) = ap (λ r. x ∷ r) (group xs)

pub sorted-copy : (all es rest : Entries) → T (is_sorted place_cmp all) → rest ≡ [] → es ++ rest ≡ all → T (is_sorted place_cmp es)
sorted-copy all es rest h none e = sorted-front es rest (subst (λ (x : Entries). T (is_sorted place_cmp x)) (sym e) h)

whole-copy : (es rest all : Entries) → rest ≡ [] → es ++ rest ≡ all → es ≡ all
whole-copy es rest all none e = sym (nothing es) ∙ ap (λ (x : Entries). es ++ x) (sym none) ∙ e
  where
    nothing : (es : Entries) → es ++ [] ≡ es
    nothing [] = refl
    nothing (x ∷ es) = ap (λ r. x ∷ r) (nothing es)

-- at the end of a copy
pub copied-all : (m : BodyMap) (es rest : Entries) → rest ≡ [] → es ++ rest ≡ entries m → from_sorted {R = place_cmp} es ≡ m
copied-all m es rest none e =
    let whole : es ≡ entries m = whole-copy es rest (entries m) none e in
    same_entries_map _ _ (entries-from_sorted place_cmp es (subst (λ (x : Entries). T (is_sorted place_cmp x)) (sym whole) (entries_sorted m)) ∙ whole)
