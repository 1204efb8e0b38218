-- Members of lists that are cut, sorted and grouped.
use Rattle.std.proofs.Common.{◌≡◌, ◌⊎◌, inl, inr, ℕ, zero, suc, Bool, true, false, if◌then◌else◌, not, ◌&&◌, List, [], ◌∷◌, map, take, drop, filter, flat_map, refl, sym, subst}
use Rattle.std.specs.Prelude.{Option, Some, None}
use Rattle.std.specs.List.{AllByRecursion}
use Rattle.std.specs.declared.cmp.Ordering.{Ordering}
use Rattle.std.specs.declared.cmp.Ordering.TheVariants.{Less, Equal, Greater}
use Rattle.std.specs.Ordering.{is_eq, is_gt, ordering_reverse}
use Rattle.ur_values.specs.declared.value.Value.{Value}
use Rattle.ur_values.specs.Order.{value_cmp, values_eq}
use Rattle.ur_values.proofs.Order.{value_cmp_total}
use Rattle.ur_sql.specs.declared.query.ColumnAt.{ColumnAt}
use Rattle.ur_sql.specs.declared.query.Bound.{Bound}
use Rattle.ur_sql.specs.Answer.{Combination, first_ones, group_key, groups_by, insert_before, stable_sort, offset_by, limit_by, bound_of, first_of}
use Rattle.ur_sql.proofs.Members.{In, in_filter, in_from_filter, in_map_back, in_append_back}

pub in_flat_map_back : {X Y : Type 0} (f : X → List Y) (xs : List X) (y : Y) → In y (flat_map f xs) → (x : X) × In x xs × In y (f x)
in_flat_map_back f [] y h = absurd h
in_flat_map_back {X} {Y} f (x ∷ xs) y h = go (in_append_back (f x) (flat_map f xs) y h) (in_flat_map_back f xs y)
  where
    go : In y (f x) ⊎ In y (flat_map f xs) → (In y (flat_map f xs) → (z : X) × In z xs × In y (f z)) → (z : X) × ((x ≡ z) ⊎ In z xs) × In y (f z)
    go (inl i) rec = (x, inl refl, i)
    go (inr i) rec = let r = rec i in (r.0, inr (r.1), r.2)

pub every_in : {X : Type 0} (P : X → Type 0) (xs : List X) → ((x : X) → In x xs → P x) → AllByRecursion P xs
every_in P [] h = tt
every_in P (x ∷ xs) h = (h x (inl refl), every_in P xs (λ y i. h y (inr i)))

in_take : {X : Type 0} (n : ℕ) (xs : List X) (x : X) → In x (take n xs) → In x xs
in_take zero xs x h = absurd h
in_take (suc n) [] x h = absurd h
in_take (suc n) (y ∷ xs) x (inl e) = inl e
in_take (suc n) (y ∷ xs) x (inr h) = inr (in_take n xs x h)

in_drop : {X : Type 0} (n : ℕ) (xs : List X) (x : X) → In x (drop n xs) → In x xs
in_drop zero xs x h = h
in_drop (suc n) [] x h = absurd h
in_drop (suc n) (y ∷ xs) x h = inr (in_drop n xs x h)

pub in_limit : {X : Type 0} (params : List Value) (b : Option Bound) (xs : List X) (x : X) → In x (limit_by params b xs) → In x xs
in_limit params None xs x h = h
in_limit params (Some b) xs x h = in_take (bound_of params b) xs x h

pub in_offset : {X : Type 0} (params : List Value) (b : Option Bound) (xs : List X) (x : X) → In x (offset_by params b xs) → In x xs
in_offset params None xs x h = h
in_offset params (Some b) xs x h = in_drop (bound_of params b) xs x h

in_inserted : {X : Type 0} (cmp : X → X → Ordering) (y : X) (ys : List X) (x : X) → In x (insert_before cmp y ys) → (y ≡ x) ⊎ In x ys
in_inserted cmp y [] x h = h
in_inserted {X} cmp y (z ∷ zs) x h = go (is_gt (cmp y z)) h (in_inserted cmp y zs x)
  where
    later : (y ≡ x) ⊎ In x zs → (y ≡ x) ⊎ ((z ≡ x) ⊎ In x zs)
    later (inl e) = inl e
    later (inr i) = inr (inr i)

    go : (b : Bool) → In x (if b then z ∷ insert_before cmp y zs else y ∷ z ∷ zs) → (In x (insert_before cmp y zs) → (y ≡ x) ⊎ In x zs) → (y ≡ x) ⊎ ((z ≡ x) ⊎ In x zs)
    go true (inl e) rec = inr (inl e)
    go true (inr i) rec = later (rec i)
    go false h rec = h

pub in_sorted : {X : Type 0} (cmp : X → X → Ordering) (xs : List X) (x : X) → In x (stable_sort cmp xs) → In x xs
in_sorted cmp [] x h = h
in_sorted cmp (y ∷ xs) x h = go (in_inserted cmp y (stable_sort cmp xs) x h) (in_sorted cmp xs x)
  where
    go : (y ≡ x) ⊎ In x (stable_sort cmp xs) → (In x (stable_sort cmp xs) → In x xs) → (y ≡ x) ⊎ In x xs
    go (inl e) rec = inl e
    go (inr i) rec = inr (rec i)

in_first_ones : {X : Type 0} (same : X → X → Bool) (xs : List X) (x : X) → In x (first_ones same xs) → In x xs
in_first_ones same [] x h = h
in_first_ones same (y ∷ xs) x (inl e) = inl e
in_first_ones same (y ∷ xs) x (inr h) = inr (in_first_ones same xs x ((in_filter (λ other. not (same y other)) (first_ones same xs) x h).0))

-- ---- groups

self_tie : (o : Ordering) → o ≡ ordering_reverse o → is_eq o ≡ true
self_tie Less e = cc
self_tie Equal e = refl
self_tie Greater e = cc

values_same : (xs : List Value) → values_eq xs xs ≡ true
values_same [] = refl
values_same (x ∷ xs) =
    subst (λ b. (b && values_eq xs xs) ≡ true) (sym (self_tie (value_cmp x x) (let total = value_cmp_total in total.antisymm x x))) (values_same xs)

-- a group's combinations are among all; a group is empty only where it is the one group of an aggregate
pub group_of : (columns : List ColumnAt) (flag : Bool) (cs : List Combination) (g : List Combination) → In g (groups_by columns flag cs)
    → ((c : Combination) → In c g → In c cs) × (((c : Combination) × In c g) ⊎ ((columns ≡ []) × (flag ≡ true)))
group_of [] true cs g (inl e) = ((λ c i. subst (λ l. In c l) (sym e) i), inr (refl, refl))
group_of [] true cs g (inr h) = absurd h
group_of [] false cs g h =
    let r = in_map_back (λ c. c ∷ []) cs g h in
    ((λ c i. alone (r.0) (r.1) c (subst (λ l. In c l) (sym (r.2)) i)), inl (r.0, subst (λ l. In (r.0) l) (r.2) (inl refl)))
  where
    alone : (d : Combination) → In d cs → (c : Combination) → In c (d ∷ []) → In c cs
    alone d there c (inl e) = subst (λ x. In x cs) e there
    alone d there c (inr i) = absurd i
group_of (k ∷ ks) flag cs g h =
    let key = group_key (k ∷ ks) in
    let r = in_map_back (λ x. filter (λ c. values_eq x (group_key (k ∷ ks) c)) cs) (first_ones values_eq (map key cs)) g h in
    let m = in_map_back key cs (r.0) (in_first_ones values_eq (map key cs) (r.0) (r.1)) in (
      (λ c i. (in_filter (λ c. values_eq (r.0) (group_key (k ∷ ks) c)) cs c (subst (λ l. In c l) (sym (r.2)) i)).0),
      inl (
        m.0,
        subst (λ l. In (m.0) l) (r.2)
            (in_from_filter (λ c. values_eq (r.0) (group_key (k ∷ ks) c)) cs (m.0) (m.1)
            (subst (λ x. values_eq x (key (m.0)) ≡ true) (m.2) (values_same (key (m.0))))),
      ),
    )

pub first_in : (g : List Combination) (c : Combination) → In c g → In (first_of g) g
first_in [] c h = absurd h
first_in (d ∷ g) c h = inl refl
