-- Bodies that are put anew.
use Rattle.std.proofs.Common.{◌≡◌, ℕ, zero, suc, ◌+◌, ◌≤◌, ◌<◌, ◌⊎◌, inl, inr, ℤ, pos, Bool, true, false, cond, ◌&&◌, List, [], ◌∷◌, ◌++◌, map, Option, Some, None, is_some, T, refl, ap, ap₂, sym, subst, ◌∙◌, arith, append-nil}
use Rattle.std.specs.declared.cmp.Ordering.{Ordering}
use Rattle.std.specs.declared.cmp.Ordering.TheVariants.{Less, Equal, Greater}
use Rattle.std.specs.Ordering.{int_cmp, int_eq, is_lt, is_eq, eq_by_cmp, ordering_reverse}
use Rattle.std.specs.Prelude.{IsTrue}
use Rattle.std.specs.Cmp.{int_cmp_total, tied_itself}
use Rattle.std.specs.FinMap.{insert, put, find, is_sorted, get-insert}
use Rattle.std.specs.FinMap.Entries.{by_order, below_all}
use Rattle.std.proofs.lemmas.Bool.{cases_eq, cases_lt}
use Rattle.ur_keeper_bodies.specs.declared.bodies.BodyChange.{BodyChange}
use Rattle.ur_keeper_bodies.specs.declared.bodies.BodyChange.TheVariants as change
use Rattle.ur_keeper_bodies.specs.Bodies.{BodyMap, body_at, bodies_of, written, written_one, CanWrite}
use Rattle.ur_keeper_bodies.proofs.Places.{place_total, first, second}
use Rattle.ur_keeper_bodies.proofs.Tables.{bodies-sorted, bodies-find, bodies-put, bodies-put-elsewhere, place-tie}
use Rattle.ur_keeper_kept.specs.Laid.{table_tab}
use Rattle.ur_keeper_kept.specs.Rewriting.{Entry, renewed, puts, all_puts, PutsRewrite}

less-is : (r : Ordering) → T (is_lt r) → r ≡ Less
less-is Less p = refl
less-is Equal p = absurd p
less-is Greater p = absurd p

-- ---- one body anew

below-at : (k : ℤ) (done : List Entry) (x : Entry) (todo : List Entry) → T (below_all int_cmp k (done ++ x ∷ todo)) → T (is_lt (int_cmp k x.0))
below-at k [] x todo b = first (is_lt (int_cmp k x.0)) (below_all int_cmp k todo) b
below-at k (e ∷ done) x todo b = below-at k done x todo (second (is_lt (int_cmp k e.0)) (below_all int_cmp k (done ++ x ∷ todo)) b)

put-at : (done : List Entry) (x : Entry) (v : List ℕ) (todo : List Entry) → T (is_sorted int_cmp (done ++ x ∷ todo))
    → put int_cmp x.0 v (done ++ x ∷ todo) ≡ done ++ (x.0, v) ∷ todo
put-at [] x v todo s = ap (λ r. by_order r ((x.0, v) ∷ x ∷ todo) ((x.0, v) ∷ todo) (x ∷ put int_cmp x.0 v todo)) (tied_itself int_cmp_total x.0)
put-at (e ∷ done) x v todo s =
    let less : int_cmp e.0 x.0 ≡ Less = less-is (int_cmp e.0 x.0) (below-at e.0 done x todo (first (below_all int_cmp e.0 (done ++ x ∷ todo)) (is_sorted int_cmp (done ++ x ∷ todo)) s)) in
    let more : int_cmp x.0 e.0 ≡ Greater = int_cmp_total.antisymm x.0 e.0 ∙ ap ordering_reverse less in
    ap (λ r. by_order r ((x.0, v) ∷ e ∷ (done ++ x ∷ todo)) ((e.0, v) ∷ (done ++ x ∷ todo)) (e ∷ put int_cmp x.0 v (done ++ x ∷ todo))) more
    ∙ ap (λ (r : List Entry). e ∷ r) (put-at done x v todo (second (below_all int_cmp e.0 (done ++ x ∷ todo)) (is_sorted int_cmp (done ++ x ∷ todo)) s))

below-same : (k : ℤ) (done : List Entry) (x : Entry) (v : List ℕ) (todo : List Entry)
    → below_all int_cmp k (done ++ x ∷ todo) ≡ below_all int_cmp k (done ++ (x.0, v) ∷ todo)
below-same k [] x v todo = refl
below-same k (e ∷ done) x v todo = ap (λ b. is_lt (int_cmp k e.0) && b) (below-same k done x v todo)

sorted-same : (done : List Entry) (x : Entry) (v : List ℕ) (todo : List Entry)
    → is_sorted int_cmp (done ++ x ∷ todo) ≡ is_sorted int_cmp (done ++ (x.0, v) ∷ todo)
sorted-same [] x v todo = refl
sorted-same (e ∷ done) x v todo = ap₂ ◌&&◌ (below-same e.0 done x v todo) (sorted-same done x v todo)

snoc : (done : List Entry) (x : Entry) (todo : List Entry) → done ++ x ∷ todo ≡ (done ++ x ∷ []) ++ todo
snoc [] x todo = refl
snoc (e ∷ done) x todo = ap (λ (r : List Entry). e ∷ r) (snoc done x todo)

find-at : (done : List Entry) (x : Entry) (todo : List Entry) → is_some (find int_cmp x.0 (done ++ x ∷ todo)) ≡ true
find-at [] x todo = ap (λ (b : Bool). is_some (cond b (Some x.1) (find int_cmp x.0 todo))) (ap is_eq (tied_itself int_cmp_total x.0))
find-at (e ∷ done) x todo = go (eq_by_cmp int_cmp x.0 e.0) (find-at done x todo)
  where
    go : (b : Bool) → is_some (find int_cmp x.0 (done ++ x ∷ todo)) ≡ true → is_some (cond b (Some e.1) (find int_cmp x.0 (done ++ x ∷ todo))) ≡ true
    go true r = refl
    go false r = r

-- ---- a table

-- the table so far, and what is left of it
record Under (m : BodyMap) (tab : ℤ) (done todo : List Entry) : Type 0 where
  pub is : bodies_of m tab ≡ done ++ todo
  pub sorted : T (is_sorted int_cmp (done ++ todo))

next : (m : BodyMap) (tab : ℤ) (f : Entry → List ℕ) (done : List Entry) (x : Entry) (todo : List Entry) → Under m tab done (x ∷ todo)
    → Under (insert m (tab, x.0) (f x)) tab (done ++ renewed f x ∷ []) todo
next m tab f done x todo u = record {
  is = bodies-put m tab x.0 (f x) ∙ ap (put int_cmp x.0 (f x)) u.is ∙ put-at done x (f x) todo u.sorted ∙ snoc done (renewed f x) todo;
  sorted = subst (λ (es : List Entry). T (is_sorted int_cmp es)) (snoc done (renewed f x) todo) (subst T (sorted-same done x (f x) todo) u.sorted);
}

table-written : (m : BodyMap) (tab : ℤ) (f : Entry → List ℕ) (done todo : List Entry) → Under m tab done todo
    → bodies_of (written m (puts tab f todo)) tab ≡ done ++ map (renewed f) todo
table-written m tab f done [] u = u.is
table-written m tab f done (x ∷ todo) u =
    table-written (insert m (tab, x.0) (f x)) tab f (done ++ renewed f x ∷ []) todo (next m tab f done x todo u) ∙ sym (snoc done (renewed f x) (map (renewed f) todo))

table-can : (m : BodyMap) (tab : ℤ) (f : Entry → List ℕ) (done todo : List Entry) → Under m tab done todo → CanWrite m (puts tab f todo)
table-can m tab f done [] u = tt
table-can m tab f done (x ∷ todo) u =
    (ap is_some (sym (bodies-find m tab x.0) ∙ ap (find int_cmp x.0) u.is) ∙ find-at done x todo, table-can (insert m (tab, x.0) (f x)) tab f (done ++ renewed f x ∷ []) todo (next m tab f done x todo u))

table-elsewhere : (m : BodyMap) (tab t : ℤ) (f : Entry → List ℕ) (es : List Entry) → int_eq tab t ≡ false
    → bodies_of (written m (puts tab f es)) t ≡ bodies_of m t
table-elsewhere m tab t f [] other = refl
table-elsewhere m tab t f (x ∷ es) other = table-elsewhere (insert m (tab, x.0) (f x)) tab t f es other ∙ bodies-put-elsewhere m t tab x.0 (f x) other

body-elsewhere : (m : BodyMap) (tab t n : ℤ) (f : Entry → List ℕ) (es : List Entry) → int_eq tab t ≡ false
    → body_at (written m (puts tab f es)) t n ≡ body_at m t n
body-elsewhere m tab t n f [] other = refl
body-elsewhere m tab t n f (x ∷ es) other =
    body-elsewhere (insert m (tab, x.0) (f x)) tab t n f es other
    ∙ get-insert place_total m (tab, x.0) (f x) (t, n) ∙ ap (λ b. cond b (Some (f x)) (body_at m t n)) (place-tie t tab n x.0 false other)

-- ---- all tables

pub written-append : (m : BodyMap) (cs ds : List BodyChange) → written m (cs ++ ds) ≡ written (written m cs) ds
written-append m [] ds = refl
written-append m (c ∷ cs) ds = written-append (written_one m c) cs ds

pub can-append : (m : BodyMap) (cs ds : List BodyChange) → CanWrite m cs → CanWrite (written m cs) ds → CanWrite m (cs ++ ds)
can-append m [] ds a b = b
can-append m (c ∷ cs) ds a b = (a.0, can-append (written_one m c) cs ds (a.1) b)

apart-tabs : (i j : ℕ) → i < j → int_eq (table_tab j) (table_tab i) ≡ false
apart-tabs i j l = grind (arith, l)

module _ (f : ℕ → Entry → List ℕ) (m : BodyMap) where
  -- a map whose tables from number n on are those of m
  abbrev From : ℕ → BodyMap → Type 0
  From n x = (i : ℕ) → n ≤ i → bodies_of x (table_tab i) ≡ bodies_of m (table_tab i)

  abbrev table_puts : ℕ → List BodyChange
  table_puts n = puts (table_tab n) (f n) (bodies_of m (table_tab n))

  under : (n : ℕ) (x : BodyMap) → From n x → Under x (table_tab n) [] (bodies_of m (table_tab n))
  under n x from = record { is = from n (omega arith); sorted = bodies-sorted m (table_tab n) }

  after : (n : ℕ) (x : BodyMap) → From n x → From (n + 1) (written x (table_puts n))
  after n x from i l = table-elsewhere x (table_tab n) (table_tab i) (f n) (bodies_of m (table_tab n)) (apart i l) ∙ from i (omega (arith, l))
    where
      apart : (i : ℕ) → n + 1 ≤ i → int_eq (table_tab n) (table_tab i) ≡ false
      apart i l = grind (arith, l)

  -- tables before those that are put stay
  before-stay : (n k : ℕ) (x : BodyMap) (i : ℕ) → i < n → bodies_of (written x (all_puts f m n k)) (table_tab i) ≡ bodies_of x (table_tab i)
  before-stay n zero x i l = refl
  before-stay n (suc k) x i l =
      ap (λ (y : BodyMap). bodies_of y (table_tab i)) (written-append x (table_puts n) (all_puts f m (n + 1) k))
      ∙ before-stay (n + 1) k (written x (table_puts n)) i (omega (arith, l))
      ∙ table-elsewhere x (table_tab n) (table_tab i) (f n) (bodies_of m (table_tab n)) (apart-tabs i n l)

  all-written : (n k : ℕ) (x : BodyMap) → From n x → (i : ℕ) → n ≤ i → i < n + k
      → bodies_of (written x (all_puts f m n k)) (table_tab i) ≡ map (renewed (f i)) (bodies_of m (table_tab i))
  all-written n zero x from i l small = absurd (omega (arith, l, small))
  all-written n (suc k) x from i l small =
      ap (λ (y : BodyMap). bodies_of y (table_tab i)) (written-append x (table_puts n) (all_puts f m (n + 1) k)) ∙ go (cases_eq n i) (all-written (n + 1) k (written x (table_puts n)) (after n x from) i)
    where
      go : (n ≡ i) ⊎ (n ≡ i → ⊥)
          → (n + 1 ≤ i → i < n + 1 + k → bodies_of (written (written x (table_puts n)) (all_puts f m (n + 1) k)) (table_tab i) ≡ map (renewed (f i)) (bodies_of m (table_tab i)))
          → bodies_of (written (written x (table_puts n)) (all_puts f m (n + 1) k)) (table_tab i) ≡ map (renewed (f i)) (bodies_of m (table_tab i))
      go (inl e) more =
          subst (λ j. bodies_of (written (written x (table_puts n)) (all_puts f m (n + 1) k)) (table_tab j) ≡ map (renewed (f j)) (bodies_of m (table_tab j))) e
          (before-stay (n + 1) k (written x (table_puts n)) n (omega arith) ∙ table-written x (table_tab n) (f n) [] (bodies_of m (table_tab n)) (under n x from))
      go (inr other) more = more (omega (arith, l, other)) (omega (arith, small))

  all-can : (n k : ℕ) (x : BodyMap) → From n x → CanWrite x (all_puts f m n k)
  all-can n zero x from = tt
  all-can n (suc k) x from =
      can-append x (table_puts n) (all_puts f m (n + 1) k) (table-can x (table_tab n) (f n) [] (bodies_of m (table_tab n)) (under n x from))
      (all-can (n + 1) k (written x (table_puts n)) (after n x from))

  low-stays : (n k : ℕ) (x : BodyMap) (t z : ℤ) → ((i : ℕ) → int_eq (table_tab i) t ≡ false) → body_at (written x (all_puts f m n k)) t z ≡ body_at x t z
  low-stays n zero x t z other = refl
  low-stays n (suc k) x t z other =
      ap (λ (y : BodyMap). body_at y t z) (written-append x (table_puts n) (all_puts f m (n + 1) k))
      ∙ low-stays (n + 1) k (written x (table_puts n)) t z other ∙ body-elsewhere x (table_tab n) t z (f n) (bodies_of m (table_tab n)) (other n)

apart-numbers : (i : ℕ) → int_eq (table_tab i) (pos 1) ≡ false
apart-numbers i = grind arith

apart-text : (i : ℕ) → int_eq (table_tab i) (pos 0) ≡ false
apart-text i = grind arith

pub puts-rewrite : PutsRewrite
puts-rewrite f m tables = (
  all-can f m 0 tables m (λ i l. refl),
  record {
    bodies = λ i l. all-written f m 0 tables m (λ i l. refl) i (omega arith) (omega (arith, l));
    numbers = λ j. low-stays f m 0 tables m (pos 1) (pos j) apart-numbers;
  },
  low-stays f m 0 tables m (pos 0) (pos 0) apart-text,
)
