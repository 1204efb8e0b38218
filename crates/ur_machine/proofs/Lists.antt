-- Lists of entries and of masks.
use Rattle.std.proofs.Common.{◌≡◌, ◌≢◌, ℕ, zero, suc, ◌+◌, Bool, true, false, not, ◌&&◌, ◌||◌, cond, nat_eq, ◌==◌, List, [], ◌∷◌, ◌++◌, length, map, flat_map, filter, take, Option, Some, None, slice_get, refl, sym, ap, ap₂, subst, ◌∙◌, arith, true≢false}
use Rattle.std.specs.Prelude.{slice_index_or}
use Rattle.std.specs.List.{AllByRecursion, AllZip, list_any, find, enumerate_from}
use Rattle.ur_values.specs.declared.value.Value.{Value}
use Rattle.ur_values.specs.declared.schema.ColumnKind.{ColumnKind}
use Rattle.ur_values.specs.Order.{value_eq, values_eq}
use Rattle.ur_values.specs.Store.{FitKinds}
use Rattle.ur_conditions.proofs.Values.{same_plain_right, fits_plain}

pub some_same : {A : Type 0} (a b : A) → Some a ≡ Some b → a ≡ b
some_same a b e = cc

pub same_number : (n m : ℕ) → nat_eq n m ≡ true → n ≡ m
same_number n m e = grind arith

pub both_true : (a b : Bool) → (a && b) ≡ true → (a ≡ true) × (b ≡ true)
both_true true b e = (refl, e)
both_true false b e = absurd (true≢false (sym e))

pub neither_first : (a b : Bool) → (a || b) ≡ false → a ≡ false
neither_first true b e = e
neither_first false b e = refl

pub neither_second : (a b : Bool) → (a || b) ≡ false → b ≡ false
neither_second true b e = absurd (true≢false e)
neither_second false b e = e

pub is_not : (b : Bool) → not b ≡ true → b ≡ false
is_not true e = absurd (true≢false (sym e))
is_not false e = refl

-- ---- what holds of all

-- the first that passes a test
pub found_first : {A : Type 0} (P : A → Type 0) (test : A → Bool) (xs : List A) (x : A) → find test xs ≡ Some x → AllByRecursion P xs → P x × (test x ≡ true)
found_first P test [] x e h = cc
found_first P test (y ∷ ys) x e h = go (test y) refl e (λ f. found_first P test ys x f h.1)
  where
    go : (b : Bool) → test y ≡ b → cond b (Some y) (find test ys) ≡ Some x → (find test ys ≡ Some x → P x × (test x ≡ true)) → P x × (test x ≡ true)
    go true t e rec = let is : y ≡ x = some_same y x e in (subst P is h.0, subst (λ z. test z ≡ true) is t)
    go false t e rec = rec e

-- those that pass a test
pub all_passing : {A : Type 0} (P Q : A → Type 0) (test : A → Bool) → ((x : A) → test x ≡ true → P x → Q x) → (xs : List A) → AllByRecursion P xs → AllByRecursion Q (filter test xs)
all_passing P Q test f [] h = tt
all_passing P Q test f (x ∷ xs) h = go (test x) refl (all_passing P Q test f xs h.1)
  where
    go : (b : Bool) → test x ≡ b → AllByRecursion Q (filter test xs) → AllByRecursion Q (cond b (x ∷ filter test xs) (filter test xs))
    go true t rest = (f x t h.0, rest)
    go false t rest = rest

pub all_take : {A : Type 0} (P : A → Type 0) (n : ℕ) (xs : List A) → AllByRecursion P xs → AllByRecursion P (take n xs)
all_take P zero xs h = tt
all_take P (suc n) [] h = tt
all_take P (suc n) (x ∷ xs) h = (h.0, all_take P n xs h.1)

pub all_two : {A : Type 0} (P Q R : A → Type 0) → ((x : A) → P x → Q x → R x) → (xs : List A) → AllByRecursion P xs → AllByRecursion Q xs → AllByRecursion R xs
all_two P Q R f [] h k = tt
all_two P Q R f (x ∷ xs) h k = (f x h.0 k.0, all_two P Q R f xs h.1 k.1)

-- ---- two lists side by side

pub zip_at : {A B : Type 0} (R : A → B → Type 0) (xs : List A) (ys : List B) (n : ℕ) (x : A) → AllZip R xs ys → slice_get xs n ≡ Some x → (y : B) × (slice_get ys n ≡ Some y) × R x y
zip_at R [] ys n x h e = cc
zip_at R (a ∷ xs) [] n x h e = absurd h
zip_at R (a ∷ xs) (b ∷ ys) zero x h e = (b, refl, subst (λ z. R z b) (some_same a x e) h.0)
zip_at R (a ∷ xs) (b ∷ ys) (suc n) x h e = zip_at R xs ys n x h.1 e

pub got : {A : Type 0} (xs : List A) (n : ℕ) (d x : A) → slice_get xs n ≡ Some x → slice_index_or xs n d ≡ x
got [] n d x e = cc
got (y ∷ ys) zero d x e = some_same y x e
got (y ∷ ys) (suc n) d x e = got ys n d x e

pub numbered : {A : Type 0} (xs : List A) (k n m : ℕ) (x : A) → m ≡ k + n → slice_get xs n ≡ Some x → slice_get (enumerate_from k xs) n ≡ Some (m, x)
numbered [] k n m x is e = cc
numbered (y ∷ ys) k zero m x is e = ap₂ (λ (a : ℕ) b. Some (a, b)) (omega (arith, is)) (some_same y x e)
numbered (y ∷ ys) k (suc n) m x is e = numbered ys (k + 1) n m x (omega (arith, is)) e

-- ---- masks

pub none_in_front : {A : Type 0} (test : A → Bool) (xs ys : List A) → list_any test (xs ++ ys) ≡ false → list_any test xs ≡ false
none_in_front test [] ys e = refl
none_in_front test (x ∷ xs) ys e =
    go (test x) (neither_first (test x) (list_any test (xs ++ ys)) e) (none_in_front test xs ys (neither_second (test x) (list_any test (xs ++ ys)) e))
  where
    go : (b : Bool) → b ≡ false → list_any test xs ≡ false → (b || list_any test xs) ≡ false
    go true f r = f
    go false f r = r

pub none_behind : {A : Type 0} (test : A → Bool) (xs ys : List A) → list_any test (xs ++ ys) ≡ false → list_any test ys ≡ false
none_behind test [] ys e = e
none_behind test (x ∷ xs) ys e = none_behind test xs ys (neither_second (test x) (list_any test (xs ++ ys)) e)

pub none_of_one : {A B : Type 0} (test : B → Bool) (f : A → List B) (xs : List A) (n : ℕ) (x : A) → slice_get xs n ≡ Some x → list_any test (flat_map f xs) ≡ false → list_any test (f x) ≡ false
none_of_one test f [] n x e h = cc
none_of_one test f (y ∷ ys) zero x e h = subst (λ z. list_any test (f z) ≡ false) (some_same y x e) (none_in_front test (f y) (flat_map f ys) h)
none_of_one test f (y ∷ ys) (suc n) x e h = none_of_one test f ys n x e (none_behind test (f y) (flat_map f ys) h)

-- ---- keys

-- a key that tests equal to one of kinds is that key
pub same_key : (xs ys : List Value) (kinds : List ColumnKind) → FitKinds ys kinds → values_eq xs ys ≡ true → xs ≡ ys
same_key [] [] ks f e = refl
same_key [] (y ∷ ys) ks f e = absurd (true≢false (sym e))
same_key (x ∷ xs) [] ks f e = absurd (true≢false (sym e))
same_key (x ∷ xs) (y ∷ ys) [] f e = absurd f
same_key (x ∷ xs) (y ∷ ys) (k ∷ ks) f e =
    let b = both_true (value_eq x y) (values_eq xs ys) e in
    ap₂ (λ (z : Value) (zs : List Value). z ∷ zs) (same_plain_right x y (fits_plain y k f.0) b.0) (same_key xs ys ks f.1 b.1)
