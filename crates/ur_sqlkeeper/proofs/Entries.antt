-- Bodies by rowid: a row that is put in or taken out, and what it is to the map that is told.
use Rattle.std.proofs.Common.{◌≡◌, ℕ, ℤ, Bool, true, false, not, cond, ◌&&◌, ◌||◌, List, [], ◌∷◌, map, filter, Option, Some, None, T, refl, sym, ap, subst, ◌∙◌, if◌then◌else◌}
use Rattle.std.specs.declared.cmp.Ordering.{Ordering}
use Rattle.std.specs.declared.cmp.Ordering.TheVariants.{Less, Equal, Greater}
use Rattle.std.specs.Ordering.{int_cmp, eq_by_cmp, is_eq, is_lt, match_ordering, ordering_reverse}
use Rattle.std.specs.Cmp.{IsTotalOrder, int_cmp_total, eq_by_cmp_equiv}
use Rattle.std.specs.List.{AllByRecursion, list_any}
use Rattle.std.specs.FinMap.{find, put, is_sorted, from_entries, insert, remove, get-from_entries, get-insert, get-remove, same_map, int_cmp-IsAntisymmetric}
use Rattle.std.specs.FinMap.Entries.{where_key, below_all, by_order}
use Rattle.sqlite.specs.declared.types.Value.TheVariants.{Int, Blob}
use Rattle.sqlite.specs.Order.{Row, value_cmp}
use Rattle.sqlite.specs.Tree.{rowid, has_rowid, put_row, without_rowid}
use Rattle.sqlite.specs.Edit.{is_taken}
use Rattle.sqlite_value.proofs.OrderLemmas.{value_cmp-Int}
use Rattle.ur_keeper_bodies.specs.Bodies.{Place, BodyMap, place_cmp, body_at}
use Rattle.ur_keeper_bodies.proofs.Places.{place_total, place_same, both, first, second}
use Rattle.ur_sqlkeeper.specs.Rows.{Body, Kept, stored, kept_in, bodies_kept, map_in, is_at}

-- ---- rows and entries

pub read-back : (ks : List Kept) → map kept_in (map stored ks) ≡ ks
read-back [] = refl
read-back (k ∷ ks) = ap (λ xs. k ∷ xs) (read-back ks)

turned : (a b : ℤ) → is_eq (int_cmp a b) ≡ is_eq (int_cmp b a)
turned a b = (eq_by_cmp_equiv int_cmp_total).symm a b

same-id : (a b : ℤ) → is_eq (value_cmp (Int a) (Int b)) ≡ is_eq (int_cmp a b)
same-id a b = ap is_eq (value_cmp-Int a b)

-- a row is put where its entry is
pub row-put : (id : ℤ) (v : Body) (ks : List Kept) → put_row (stored (id, v)) (map stored ks) ≡ map stored (put int_cmp id v ks)
row-put id v [] = refl
row-put id v (k ∷ ks) =
    let back : value_cmp (Int k.0) (Int id) ≡ ordering_reverse (int_cmp id k.0) = value_cmp-Int k.0 id ∙ int_cmp_total.antisymm k.0 id in
    ap (λ r. match_ordering r (stored k ∷ put_row (stored (id, v)) (map stored ks)) (stored (id, v) ∷ map stored ks) (stored (id, v) ∷ stored k ∷ map stored ks)) back
    ∙ elim (int_cmp id k.0) as (λ r. int_cmp id k.0 ≡ r
    → match_ordering (ordering_reverse r) (stored k ∷ put_row (stored (id, v)) (map stored ks)) (stored (id, v) ∷ map stored ks) (stored (id, v) ∷ stored k ∷ map stored ks)
    ≡ map stored (by_order r ((id, v) ∷ k ∷ ks) ((k.0, v) ∷ ks) (k ∷ put int_cmp id v ks))) [
      | Less ↦ λ _. refl
      | Equal ↦ λ e. ap (λ (n : ℤ). stored (n, v) ∷ map stored ks) (int_cmp-IsAntisymmetric id k.0 e)
      | Greater ↦ λ _. ap (λ rows. stored k ∷ rows) (row-put id v ks)
    ] refl

-- a rowid is taken out
pub row-gone : (id : ℤ) (ks : List Kept) → without_rowid id (map stored ks) ≡ map stored (where_key int_cmp (λ n. not (eq_by_cmp int_cmp id n)) ks)
row-gone id [] = refl
row-gone id (k ∷ ks) =
    ap (λ b. cond (not b) (stored k ∷ without_rowid id (map stored ks)) (without_rowid id (map stored ks))) (same-id k.0 id ∙ turned k.0 id)
    ∙ elim (eq_by_cmp int_cmp id k.0) as (λ b. cond (not b) (stored k ∷ without_rowid id (map stored ks)) (without_rowid id (map stored ks))
    ≡ map stored (cond (not b) (k ∷ where_key int_cmp (λ n. not (eq_by_cmp int_cmp id n)) ks) (where_key int_cmp (λ n. not (eq_by_cmp int_cmp id n)) ks))) [
      | true ↦ row-gone id ks
      | false ↦ ap (λ rows. stored k ∷ rows) (row-gone id ks)
    ]

-- a rowid that is not taken is found nowhere
pub not-taken : (id : ℤ) (v : Body) (ks : List Kept) → is_taken (map stored ks) (stored (id, v)) ≡ false → find int_cmp id ks ≡ None
not-taken id v [] h = refl
not-taken id v (k ∷ ks) h =
    elim (is_eq (value_cmp (Int k.0) (Int id))) as (λ b. is_eq (value_cmp (Int k.0) (Int id)) ≡ b → (b || is_taken (map stored ks) (stored (id, v))) ≡ false → cond (is_eq (int_cmp id k.0)) (Some k.1) (find int_cmp id ks) ≡ None) [
      | true ↦ λ _ p. absurd (subst T p tt)
      | false ↦ λ e p. ap (λ b. cond b (Some k.1) (find int_cmp id ks)) (turned id k.0 ∙ sym (same-id k.0 id) ∙ e) ∙ not-taken id v ks p
    ] refl h

-- ---- the map

equal : (r : Ordering) → is_eq r ≡ true → r ≡ Equal
equal Less p = absurd (subst T (sym p) tt)
equal Equal p = refl
equal Greater p = absurd (subst T (sym p) tt)

tied : (p q : Place) → eq_by_cmp place_cmp p q ≡ true → p ≡ q
tied p q e = place_same p q (equal _ e)

swapped : {A : Type 0} (a b : Bool) (x y z : A) → (a ≡ true → b ≡ true → ⊥) → cond a x (cond b y z) ≡ cond b y (cond a x z)
swapped true true x y z apart = absurd (apart refl refl)
swapped true false x y z apart = refl
swapped false b x y z apart = refl

no-value : {A : Type 0} {x : A} → Some x ≡ None → ⊥
no-value e = cc

some-none : {A : Type 0} (b : Bool) (x : A) (o : Option A) → cond b (Some x) o ≡ None → b ≡ false
some-none true x o e = absurd (no-value e)
some-none false x o e = refl

rest-none : {A : Type 0} (b : Bool) (x : A) (o : Option A) → cond b (Some x) o ≡ None → o ≡ None
rest-none b x o e = ap (λ c. cond c (Some x) o) (sym (some-none b x o e)) ∙ e

abbrev pub at : Place → List Kept → Option (List ℕ)
at q ks = find place_cmp q (bodies_kept ks)

apart : (q p p' : Place) → eq_by_cmp place_cmp p p' ≡ false → eq_by_cmp place_cmp q p' ≡ true → eq_by_cmp place_cmp q p ≡ true → ⊥
apart q p p' differ here there = subst T (sym (subst (λ (x : Place). eq_by_cmp place_cmp x p' ≡ true) (tied q p there) here) ∙ differ) tt

-- a body at a new place, with a new rowid
pub found-put : (id : ℤ) (p : Place) (b : List ℕ) (q : Place) (ks : List Kept) → find int_cmp id ks ≡ None → at p ks ≡ None → at q (put int_cmp id (p, b) ks) ≡ cond (eq_by_cmp place_cmp q p) (Some b) (at q ks)
found-put id p b q [] fresh new = refl
found-put id p b q (k ∷ ks) fresh new =
    elim (int_cmp id k.0) as (λ r. int_cmp id k.0 ≡ r → at q (by_order r ((id, (p, b)) ∷ k ∷ ks) ((k.0, (p, b)) ∷ ks) (k ∷ put int_cmp id (p, b) ks)) ≡ cond (eq_by_cmp place_cmp q p) (Some b) (at q (k ∷ ks))) [
      | Less ↦ λ _. refl
      | Equal ↦ λ e. absurd (subst T (sym (ap is_eq e) ∙ some-none (is_eq (int_cmp id k.0)) k.1 (find int_cmp id ks) fresh) tt)
      | Greater ↦ λ _. ap (cond (eq_by_cmp place_cmp q k.1.0) (Some k.1.1)) (found-put id p b q ks (rest-none (is_eq (int_cmp id k.0)) k.1 _ fresh) (rest-none (eq_by_cmp place_cmp p k.1.0) k.1.1 _ new))
          ∙ swapped _ _ _ _ _ (apart q p k.1.0 (some-none (eq_by_cmp place_cmp p k.1.0) k.1.1 _ new))
    ] refl

-- the rowid is taken just where the place is
abbrev pub Agree : ℤ → Place → List Kept → Type 0
Agree id p = AllByRecursion (λ k. eq_by_cmp int_cmp id k.0 ≡ eq_by_cmp place_cmp p k.1.0)

abbrev pub left : ℤ → List Kept → List Kept
left id = where_key int_cmp (λ n. not (eq_by_cmp int_cmp id n))

pub found-left : (id : ℤ) (p q : Place) (ks : List Kept) → Agree id p ks → at q (left id ks) ≡ cond (eq_by_cmp place_cmp q p) None (at q ks)
found-left id p q [] h = elim (eq_by_cmp place_cmp q p) as (λ b. at q [] ≡ cond b None (at q [])) [ true ↦ refl | false ↦ refl ]
found-left id p q (k ∷ ks) h =
    let rest = found-left id p q ks h.1 in
    elim (eq_by_cmp int_cmp id k.0) as (λ b. eq_by_cmp int_cmp id k.0 ≡ b → at q (cond (not b) (k ∷ left id ks) (left id ks)) ≡ cond (eq_by_cmp place_cmp q p) None (at q (k ∷ ks))) [
      | true ↦ λ e. rest ∙ ap (λ (x : Place). cond (eq_by_cmp place_cmp q x) None (at q ks)) (tied p k.1.0 (sym h.0 ∙ e))
          ∙ hidden (eq_by_cmp place_cmp q k.1.0) (Some k.1.1) (at q ks)
          ∙ ap (λ (x : Place). cond (eq_by_cmp place_cmp q x) None (at q (k ∷ ks))) (sym (tied p k.1.0 (sym h.0 ∙ e)))
      | false ↦ λ e. ap (cond (eq_by_cmp place_cmp q k.1.0) (Some k.1.1)) rest ∙ swapped _ _ _ _ _ (apart q p k.1.0 (sym h.0 ∙ e))
    ] refl
  where
    hidden : {A : Type 0} (b : Bool) (x y : Option A) → cond b None y ≡ cond b None (cond b x y)
    hidden true x y = refl
    hidden false x y = refl

-- what is above a rowid is above that of each row after it
above : (n : ℤ) (test : Kept → Bool) (x : Kept) (ks : List Kept) → T (below_all int_cmp n ks) → filter test ks ≡ x ∷ [] → T (is_lt (int_cmp n x.0))
above n test x [] h e = absurd (no_more e)
  where
    no_more : {A : Type 0} {a : A} → [] ≡ a ∷ [] → ⊥
    no_more e = cc
above n test x (k ∷ ks) h e =
    elim (test k) as (λ b. cond b (k ∷ filter test ks) (filter test ks) ≡ x ∷ [] → T (is_lt (int_cmp n x.0))) [
      | true ↦ λ p. subst (λ (y : Kept). T (is_lt (int_cmp n y.0))) (head p) (first _ _ h)
      | false ↦ λ p. above n test x ks (second _ _ h) p
    ] e
  where
    head : {A : Type 0} {a b : A} {xs ys : List A} → a ∷ xs ≡ b ∷ ys → a ≡ b
    head e = cc

less-differs : (n m : ℤ) → T (is_lt (int_cmp n m)) → is_eq (int_cmp n m) ≡ false
less-differs n m h = elim (int_cmp n m) as (λ r. T (is_lt r) → is_eq r ≡ false) [ Less ↦ λ _. refl | Equal ↦ λ p. absurd p | Greater ↦ λ _. refl ] h

-- rowids above this one differ from it, and what no test finds is not at the place
none-after : (id : ℤ) (p : Place) (ks : List Kept) → T (below_all int_cmp id ks) → filter (is_at p) ks ≡ [] → Agree id p ks
none-after id p [] h e = tt
none-after id p (k ∷ ks) h e =
    elim (is_at p k) as (λ b. is_at p k ≡ b → cond b (k ∷ filter (is_at p) ks) (filter (is_at p) ks) ≡ [] → Agree id p (k ∷ ks)) [
      | true ↦ λ _ s. absurd (some_left s)
      | false ↦ λ q s. (less-differs id k.0 (first _ _ h) ∙ sym q, none-after id p ks (second _ _ h) s)
    ] refl e
  where
    some_left : {A : Type 0} {a : A} {xs : List A} → a ∷ xs ≡ [] → ⊥
    some_left e = cc

-- where one row is at the place, its rowid is taken there alone
pub one-agrees : (p : Place) (x : Kept) (ks : List Kept) → T (is_sorted int_cmp ks) → filter (is_at p) ks ≡ x ∷ [] → Agree x.0 p ks
one-agrees p x [] h e = tt
one-agrees p x (k ∷ ks) h e =
    elim (is_at p k) as (λ b. is_at p k ≡ b → cond b (k ∷ filter (is_at p) ks) (filter (is_at p) ks) ≡ x ∷ [] → Agree x.0 p (k ∷ ks)) [
      | true ↦ λ q s. let same : k ≡ x = head s in
          subst (λ (y : Kept). Agree y.0 p (k ∷ ks)) same (itself k.0 ∙ sym q, none-after k.0 p ks (first _ _ h) (tail s))
      | false ↦ λ q s. (turned x.0 k.0 ∙ less-differs k.0 x.0 (above k.0 (is_at p) x ks (first _ _ h) s) ∙ sym q, one-agrees p x ks (second _ _ h) s)
    ] refl e
  where
    head : {A : Type 0} {a b : A} {xs ys : List A} → a ∷ xs ≡ b ∷ ys → a ≡ b
    head e = cc

    tail : {A : Type 0} {a b : A} {xs ys : List A} → a ∷ xs ≡ b ∷ ys → xs ≡ ys
    tail e = cc

    itself : (n : ℤ) → is_eq (int_cmp n n) ≡ true
    itself n = (eq_by_cmp_equiv int_cmp_total).refl n

-- ---- as maps

abbrev pub told : List Kept → BodyMap
told ks = from_entries (bodies_kept ks)

pub told-at : (ks : List Kept) (tab num : ℤ) → body_at (told ks) tab num ≡ at (tab, num) ks
told-at ks tab num = get-from_entries place_total (bodies_kept ks) (tab, num)

pub told-put : (id : ℤ) (p : Place) (b : List ℕ) (ks : List Kept) → find int_cmp id ks ≡ None → at p ks ≡ None → told (put int_cmp id (p, b) ks) ≡ insert (told ks) p b
told-put id p b ks fresh new = same_map place_total place_same _ _ (λ q.
    get-from_entries place_total _ q ∙ found-put id p b q ks fresh new ∙ ap (cond (eq_by_cmp place_cmp q p) (Some b)) (sym (get-from_entries place_total _ q)) ∙ sym (get-insert place_total (told ks) p b q))

pub told-left : (id : ℤ) (p : Place) (ks : List Kept) → Agree id p ks → told (left id ks) ≡ remove (told ks) p
told-left id p ks h = same_map place_total place_same _ _ (λ q.
    get-from_entries place_total _ q ∙ found-left id p q ks h ∙ ap (cond (eq_by_cmp place_cmp q p) None) (sym (get-from_entries place_total _ q)) ∙ sym (get-remove place_total (told ks) p q))

-- a body in the place of another one
pub told-changed : (id : ℤ) (p : Place) (b : List ℕ) (ks : List Kept) → Agree id p ks → find int_cmp id (left id ks) ≡ None → told (put int_cmp id (p, b) (left id ks)) ≡ insert (told ks) p b
told-changed id p b ks h fresh =
    let none : at p (left id ks) ≡ None = found-left id p p ks h ∙ ap (λ c. cond c None (at p ks)) ((eq_by_cmp_equiv place_total).refl p) in
    same_map place_total place_same _ _ (λ q.
    get-from_entries place_total _ q ∙ found-put id p b q (left id ks) fresh none
    ∙ ap (cond (eq_by_cmp place_cmp q p) (Some b)) (found-left id p q ks h)
    ∙ over (eq_by_cmp place_cmp q p) (Some b) (at q ks)
    ∙ ap (cond (eq_by_cmp place_cmp q p) (Some b)) (sym (get-from_entries place_total _ q)) ∙ sym (get-insert place_total (told ks) p b q))
  where
    over : {A : Type 0} (c : Bool) (x y : Option A) → cond c x (cond c None y) ≡ cond c x y
    over true x y = refl
    over false x y = refl
