-- The bodies of one table in a map that changes.
use Rattle.std.proofs.Common.{◌≡◌, ℕ, ℤ, Bool, true, false, not, cond, ◌&&◌, List, [], ◌∷◌, ◌++◌, Option, Some, None, T, refl, sym, ap, subst, ◌∙◌, if◌then◌else◌, arith}
use Rattle.std.specs.declared.cmp.Ordering.{Ordering}
use Rattle.std.specs.declared.cmp.Ordering.TheVariants.{Less, Equal, Greater}
use Rattle.std.specs.Ordering.{int_cmp, int_eq, ordering_then, eq_by_cmp, is_eq, is_lt}
use Rattle.std.specs.Cmp.{int_cmp_total, tied_itself}
use Rattle.std.specs.FinMap.{entries, insert, remove, is_sorted, find, put, int_cmp-IsAntisymmetric, entries_sorted, get-entries, get-insert, get-remove, get-empty, empty}
use Rattle.std.specs.FinMap.Entries.{where_key, below_all, is_sorted-put, is_sorted-where_key, find-put, find-where_key, same_entries}
use Rattle.ur_keeper_bodies.specs.declared.bodies.BodyChange.{BodyChange}
use Rattle.ur_keeper_bodies.specs.declared.bodies.BodyChange.TheVariants as change
use Rattle.ur_keeper_bodies.specs.Bodies.{Place, BodyMap, place_cmp, of_table, bodies_of, body_at, written, written_one}
use Rattle.ur_keeper_bodies.proofs.Places.{place_total, both, first, second, put-at-end}

abbrev Es : Type 0
Es = List (Place × List ℕ)

equal : (r : Ordering) → is_eq r ≡ true → r ≡ Equal
equal Less p = absurd (subst T (sym p) tt)
equal Equal p = refl
equal Greater p = absurd (subst T (sym p) tt)

-- what is above a place in the order is above its number in its table
below-table : (tab n : ℤ) (t : ℤ) (es : Es) → t ≡ tab → T (below_all place_cmp (t, n) es) → T (below_all int_cmp n (of_table tab es))
below-table tab n t [] is h = tt
below-table tab n t (e ∷ es) is h =
    let rest = below-table tab n t es is (second _ _ h) in
    elim (int_eq e.0.0 tab) as (λ b. int_eq e.0.0 tab ≡ b → T (below_all int_cmp n (if b then (e.0.1, e.1) ∷ of_table tab es else of_table tab es))) [
      | true ↦ λ same. both _ _ (subst (λ r. T (is_lt (ordering_then r (int_cmp n e.0.1)))) (tied t e.0.0 tab is same) (first _ _ h)) rest
      | false ↦ λ _. rest
    ] refl
  where
    tied : (t u tab : ℤ) → t ≡ tab → int_eq u tab ≡ true → int_cmp t u ≡ Equal
    tied t u tab is same = subst (λ (x : ℤ). int_cmp x u ≡ Equal) (sym is) (subst (λ (x : ℤ). int_cmp tab x ≡ Equal) (sym (int_cmp-IsAntisymmetric u tab (equal _ same))) (tied_itself int_cmp_total tab))

pub table-sorted : (tab : ℤ) (es : Es) → T (is_sorted place_cmp es) → T (is_sorted int_cmp (of_table tab es))
table-sorted tab [] h = tt
table-sorted tab (e ∷ es) h =
    let rest = table-sorted tab es (second _ _ h) in
    elim (int_eq e.0.0 tab) as (λ b. int_eq e.0.0 tab ≡ b → T (is_sorted int_cmp (if b then (e.0.1, e.1) ∷ of_table tab es else of_table tab es))) [
      | true ↦ λ same. both _ _ (below-table tab e.0.1 e.0.0 es (int_cmp-IsAntisymmetric e.0.0 tab (equal _ same)) (first _ _ h)) rest
      | false ↦ λ _. rest
    ] refl

-- whether two places tie
ties : (t u : Bool) (a b : Ordering) → is_eq a ≡ t → is_eq b ≡ u → is_eq (ordering_then a b) ≡ (t && u)
ties t u Less b p q = subst (λ x. false ≡ (x && u)) p refl
ties t u Equal b p q = q ∙ subst (λ x. u ≡ (x && u)) p refl
ties t u Greater b p q = subst (λ x. false ≡ (x && u)) p refl

turned : (a b : ℤ) → int_eq a b ≡ int_eq b a
turned a b = grind arith

pub table-find : (tab n : ℤ) (es : Es) → find int_cmp n (of_table tab es) ≡ find place_cmp (tab, n) es
table-find tab n [] = refl
table-find tab n (e ∷ es) =
    let rest = table-find tab n es in
    elim (int_eq e.0.0 tab) as (λ b. int_eq e.0.0 tab ≡ b → find int_cmp n (if b then (e.0.1, e.1) ∷ of_table tab es else of_table tab es) ≡ cond (is_eq (ordering_then (int_cmp tab e.0.0) (int_cmp n e.0.1))) (Some e.1) (find place_cmp (tab, n) es)) [
      | true ↦ λ same. ap (cond (is_eq (int_cmp n e.0.1)) (Some e.1)) rest ∙ ap (λ b. cond b (Some e.1) (find place_cmp (tab, n) es)) (sym (ties true _ _ _ (turned tab e.0.0 ∙ same) refl))
      | false ↦ λ other. rest ∙ ap (λ b. cond b (Some e.1) (find place_cmp (tab, n) es)) (sym (ties false _ _ _ (turned tab e.0.0 ∙ other) refl))
    ] refl

pub bodies-sorted : (m : BodyMap) (tab : ℤ) → T (is_sorted int_cmp (bodies_of m tab))
bodies-sorted m tab = table-sorted tab (entries m) (entries_sorted m)

pub bodies-find : (m : BodyMap) (tab n : ℤ) → find int_cmp n (bodies_of m tab) ≡ body_at m tab n
bodies-find m tab n = table-find tab n (entries m) ∙ sym (get-entries m (tab, n))

-- two tables with the same bodies
pub same-bodies : (m : BodyMap) (tab : ℤ) (xs : List (ℤ × List ℕ)) → T (is_sorted int_cmp xs) → ((n : ℤ) → body_at m tab n ≡ find int_cmp n xs) → bodies_of m tab ≡ xs
same-bodies m tab xs s h = same_entries int_cmp int_cmp_total int_cmp-IsAntisymmetric (bodies_of m tab) xs (bodies-sorted m tab) s (λ n. bodies-find m tab n ∙ h n)

pub place-tie : (tab t n num : ℤ) (b : Bool) → int_eq t tab ≡ b → eq_by_cmp place_cmp (tab, n) (t, num) ≡ (b && eq_by_cmp int_cmp n num)
place-tie tab t n num b e = ties b _ _ _ (turned tab t ∙ e) refl

-- a body put in the table, and in another one
pub bodies-put : (m : BodyMap) (tab num : ℤ) (v : List ℕ) → bodies_of (insert m (tab, num) v) tab ≡ put int_cmp num v (bodies_of m tab)
bodies-put m tab num v =
    same-bodies (insert m (tab, num) v) tab (put int_cmp num v (bodies_of m tab)) (is_sorted-put int_cmp int_cmp_total num v (bodies_of m tab) (bodies-sorted m tab)) (λ n.
    get-insert place_total m (tab, num) v (tab, n)
    ∙ ap (λ b. cond b (Some v) (body_at m tab n)) (place-tie tab tab n num true (itself tab))
    ∙ ap (cond (eq_by_cmp int_cmp n num) (Some v)) (sym (bodies-find m tab n))
    ∙ sym (find-put int_cmp int_cmp_total n num v (bodies_of m tab)))
  where
    itself : (a : ℤ) → int_eq a a ≡ true
    itself a = ap is_eq (tied_itself int_cmp_total a)

pub bodies-put-elsewhere : (m : BodyMap) (tab t num : ℤ) (v : List ℕ) → int_eq t tab ≡ false → bodies_of (insert m (t, num) v) tab ≡ bodies_of m tab
bodies-put-elsewhere m tab t num v other =
    same-bodies (insert m (t, num) v) tab (bodies_of m tab) (bodies-sorted m tab) (λ n.
    get-insert place_total m (t, num) v (tab, n)
    ∙ ap (λ b. cond b (Some v) (body_at m tab n)) (place-tie tab t n num false other)
    ∙ sym (bodies-find m tab n))

pub bodies-taken : (m : BodyMap) (tab num : ℤ) → bodies_of (remove m (tab, num)) tab ≡ where_key int_cmp (λ x. not (eq_by_cmp int_cmp num x)) (bodies_of m tab)
bodies-taken m tab num =
    let left = λ (x : ℤ). not (eq_by_cmp int_cmp num x) in
    same-bodies (remove m (tab, num)) tab (where_key int_cmp left (bodies_of m tab)) (is_sorted-where_key int_cmp left (bodies_of m tab) (bodies-sorted m tab)) (λ n.
    get-remove place_total m (tab, num) (tab, n)
    ∙ ap (λ b. cond b None (body_at m tab n)) (place-tie tab tab n num true (itself tab) ∙ turned n num)
    ∙ flipped (eq_by_cmp int_cmp num n) (body_at m tab n)
    ∙ ap (λ f. cond (left n) f None) (sym (bodies-find m tab n))
    ∙ sym (find-where_key int_cmp left n (λ x e. ap (λ (y : ℤ). left y) (sym (int_cmp-IsAntisymmetric n x e))) (bodies_of m tab)))
  where
    itself : (a : ℤ) → int_eq a a ≡ true
    itself a = ap is_eq (tied_itself int_cmp_total a)

    flipped : (b : Bool) (o : Option (List ℕ)) → cond b None o ≡ cond (not b) o None
    flipped true o = refl
    flipped false o = refl

pub bodies-taken-elsewhere : (m : BodyMap) (tab t num : ℤ) → int_eq t tab ≡ false → bodies_of (remove m (t, num)) tab ≡ bodies_of m tab
bodies-taken-elsewhere m tab t num other =
    same-bodies (remove m (t, num)) tab (bodies_of m tab) (bodies-sorted m tab) (λ n.
    get-remove place_total m (t, num) (tab, n)
    ∙ ap (λ b. cond b None (body_at m tab n)) (place-tie tab t n num false other)
    ∙ sym (bodies-find m tab n))

-- ---- a change of one table depends on that table alone

put-alike : (m m' : BodyMap) (tab t num : ℤ) (v : List ℕ) → bodies_of m tab ≡ bodies_of m' tab → bodies_of (insert m (t, num) v) tab ≡ bodies_of (insert m' (t, num) v) tab
put-alike m m' tab t num v e = elim (int_eq t tab) as (λ b. int_eq t tab ≡ b → bodies_of (insert m (t, num) v) tab ≡ bodies_of (insert m' (t, num) v) tab) [
  | true ↦ λ p. subst (λ (x : ℤ). bodies_of (insert m (x, num) v) tab ≡ bodies_of (insert m' (x, num) v) tab) (sym (int_cmp-IsAntisymmetric t tab (equal _ p))) (bodies-put m tab num v ∙ ap (put int_cmp num v) e ∙ sym (bodies-put m' tab num v))
  | false ↦ λ p. bodies-put-elsewhere m tab t num v p ∙ e ∙ sym (bodies-put-elsewhere m' tab t num v p)
] refl

taken-alike : (m m' : BodyMap) (tab t num : ℤ) → bodies_of m tab ≡ bodies_of m' tab → bodies_of (remove m (t, num)) tab ≡ bodies_of (remove m' (t, num)) tab
taken-alike m m' tab t num e = elim (int_eq t tab) as (λ b. int_eq t tab ≡ b → bodies_of (remove m (t, num)) tab ≡ bodies_of (remove m' (t, num)) tab) [
  | true ↦ λ p. subst (λ (x : ℤ). bodies_of (remove m (x, num)) tab ≡ bodies_of (remove m' (x, num)) tab) (sym (int_cmp-IsAntisymmetric t tab (equal _ p))) (bodies-taken m tab num ∙ ap (where_key int_cmp (λ x. not (eq_by_cmp int_cmp num x))) e ∙ sym (bodies-taken m' tab num))
  | false ↦ λ p. bodies-taken-elsewhere m tab t num p ∙ e ∙ sym (bodies-taken-elsewhere m' tab t num p)
] refl

one-alike : (m m' : BodyMap) (tab : ℤ) (c : BodyChange) → bodies_of m tab ≡ bodies_of m' tab → bodies_of (written_one m c) tab ≡ bodies_of (written_one m' c) tab
one-alike m m' tab (change.Add t num v) e = put-alike m m' tab t num v e
one-alike m m' tab (change.Put t num v) e = put-alike m m' tab t num v e
one-alike m m' tab (change.Drop t num) e = taken-alike m m' tab t num e

pub written-alike : (m m' : BodyMap) (tab : ℤ) (cs : List BodyChange) → bodies_of m tab ≡ bodies_of m' tab → bodies_of (written m cs) tab ≡ bodies_of (written m' cs) tab
written-alike m m' tab [] e = e
written-alike m m' tab (c ∷ cs) e = written-alike (written_one m c) (written_one m' c) tab cs (one-alike m m' tab c e)

-- ---- a map of the bodies of one table alone

abbrev pub Rows : Type 0
Rows = List (ℤ × List ℕ)

pub filled-more : (tab num : ℤ) (v : List ℕ) (held held' : BodyMap) (rest all : Rows) → held' ≡ insert held (tab, num) v → T (is_sorted int_cmp all) → bodies_of held tab ++ (num, v) ∷ rest ≡ all → bodies_of held' tab ++ rest ≡ all
filled-more tab num v held held' rest all is sorted e =
    ap (λ (x : Rows). x ++ rest) (ap (λ (m : BodyMap). bodies_of m tab) is ∙ bodies-put held tab num v ∙ put-at-end int_cmp int_cmp_total (bodies_of held tab) num v rest (subst (λ (x : Rows). T (is_sorted int_cmp x)) (sym e) sorted))
    ∙ group (bodies_of held tab) ∙ e
  where
    group : (es : Rows) → (es ++ (num, v) ∷ []) ++ rest ≡ es ++ (num, v) ∷ rest
    group [] = refl
    group (x ∷ es) = ap (λ r. x ∷ r) (group es)

pub bodies-none : (tab : ℤ) → bodies_of (empty {R = place_cmp}) tab ≡ []
bodies-none tab = same-bodies (empty {R = place_cmp}) tab [] tt (λ n. get-empty place_cmp (tab, n))
