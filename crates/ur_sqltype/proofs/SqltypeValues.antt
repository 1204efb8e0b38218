-- What is known of each value is known of all of them.
use Rattle.std.proofs.Common.{◌≡◌, ◌∙◌, refl, sym, ap, subst, ℕ, zero, suc, ◌+◌, Bool, true, false, List, [], ◌∷◌, ◌++◌, length, drop, map, Option, Some, None, arith}
use Rattle.std.specs.Prelude.{if◌then◌else◌, slice_get, slice_index_or, IfSome, bytes_eq}
use Rattle.std.specs.List.{AllByRecursion}
use Rattle.ur_sqltype.specs.Scope.{named_from}
use Rattle.ur_sqltype.specs.Lists.{and_then, all_of, maybe}
use Rattle.ur_sqltype.proofs.Lists.{some_is, none_is}
use Rattle.ur_sqltype.proofs.Taken.{map_taken}

pub and_taken : {B : Type 0} (m : Option B) (n : Option (List B)) (ys : List B) → and_then m n ≡ Some ys → (y : B) × (rest : List B) × (m ≡ Some y) × (n ≡ Some rest) × (y ∷ rest ≡ ys)
and_taken None n ys e = none_is e
and_taken (Some y) None ys e = none_is e
and_taken (Some y) (Some rest) ys e = (y, rest, refl, refl, some_is e)

pub if_taken : {A : Type 0} (b : Bool) (y x : A) → (if b then Some y else None) ≡ Some x → (b ≡ true) × (y ≡ x)
if_taken true y x e = (refl, some_is e)
if_taken false y x e = none_is e

pub if_so : {A : Type 0} (b : Bool) (o : Option A) (x : A) → (if b then o else None) ≡ Some x → (b ≡ true) × (o ≡ Some x)
if_so true o x e = (refl, e)
if_so false o x e = none_is e

pub if_not : {A : Type 0} (b : Bool) (o : Option A) (x : A) → (if b then None else o) ≡ Some x → o ≡ Some x
if_not true o x e = none_is e
if_not false o x e = e

module _ {A B : Type 0} (f : A → Option B) (P : B → Type 0) (each : (a : A) (b : B) → f a ≡ Some b → P b) where
  pub all_values : (xs : List A) (ys : List B) → all_of f xs ≡ Some ys → AllByRecursion P ys
  all_values [] ys e = subst (AllByRecursion P) (some_is e) tt
  all_values (x ∷ xs) ys e = let t = and_taken (f x) (all_of f xs) ys e in subst (AllByRecursion P) t.4 (each x t.0 t.2, all_values xs t.1 t.3)

  pub maybe_value : (o : Option A) (v : Option B) → maybe f o ≡ Some v → IfSome v P
  maybe_value None v e = subst (λ z. IfSome z P) (some_is e) tt
  maybe_value (Some a) v e = let m = map_taken Some (f a) v e in subst (λ z. IfSome z P) m.2 (each a m.0 m.1)

pub all_length : {A B : Type 0} (f : A → Option B) (xs : List A) (ys : List B) → all_of f xs ≡ Some ys → length ys ≡ length xs
all_length f [] ys e = ap length (sym (some_is e))
all_length f (x ∷ xs) ys e = let t = and_taken (f x) (all_of f xs) ys e in ap length (sym t.4) ∙ ap (λ n. suc n) (all_length f xs t.1 t.3)

-- ---- by recursion on lists

pub of_map : {A B : Type 0} (g : A → B) (P : B → Type 0) (xs : List A) → AllByRecursion (λ x. P (g x)) xs → AllByRecursion P (map g xs)
of_map g P [] h = tt
of_map g P (x ∷ xs) h = (h.0, of_map g P xs h.1)

pub of_both : {A : Type 0} (P : A → Type 0) (xs ys : List A) → AllByRecursion P xs → AllByRecursion P ys → AllByRecursion P (xs ++ ys)
of_both P [] ys h k = k
of_both P (x ∷ xs) ys h k = (h.0, of_both P xs ys h.1 k)

pub of_choice : {A : Type 0} (P : A → Type 0) (b : Bool) (xs ys : List A) → AllByRecursion P xs → AllByRecursion P ys → AllByRecursion P (if b then xs else ys)
of_choice P true xs ys h k = h
of_choice P false xs ys h k = k

-- ---- places

further : (i : ℕ) → suc i + 1 ≡ suc (i + 1)
further i = omega arith

no_front : {A C : Type 0} {y : A} {ys : List A} → [] ≡ y ∷ ys → C
no_front e = absurd (cc)

same_head : {A : Type 0} {x y : A} {xs ys : List A} → x ∷ xs ≡ y ∷ ys → x ≡ y
same_head e = cc

same_tail : {A : Type 0} {x y : A} {xs ys : List A} → x ∷ xs ≡ y ∷ ys → xs ≡ ys
same_tail e = cc

-- what is left from a place on begins with what stands there
pub stands_at : {A : Type 0} (xs : List A) (i : ℕ) (y : A) (ys : List A) → drop i xs ≡ y ∷ ys → (slice_get xs i ≡ Some y) × (drop (i + 1) xs ≡ ys)
stands_at [] zero y ys e = no_front e
stands_at [] (suc i) y ys e = no_front e
stands_at (x ∷ xs) zero y ys e = (ap Some (same_head e), same_tail e)
stands_at (x ∷ xs) (suc i) y ys e = let h = stands_at xs i y ys e in (h.0, ap (λ n. drop n (x ∷ xs)) (further i) ∙ h.1)

pub or_is : {A : Type 0} (xs : List A) (i : ℕ) (d y : A) → slice_get xs i ≡ Some y → slice_index_or xs i d ≡ y
or_is [] i d y e = none_is e
or_is (x ∷ xs) zero d y e = some_is e
or_is (x ∷ xs) (suc i) d y e = or_is xs i d y e

-- ---- names

by_name : {B : Type 0} (b : Bool) (i : ℕ) (y : B) (rest : Option (ℕ × B)) (P : ℕ × B → Type 0) → P (i, y) → ((t : ℕ × B) → rest ≡ Some t → P t) → (t : ℕ × B) → (if b then Some (i, y) else rest) ≡ Some t → P t
by_name true i y rest P h k t e = subst P (some_is e) h
by_name false i y rest P h k t e = k t e

-- what is found stands at its place
pub named_there : {A B : Type 0} (name : A → List ℕ) (of : A → B) (x : List ℕ) (i : ℕ) (xs : List A) (t : ℕ × B) → named_from name of x i xs ≡ Some t → (k : ℕ) × (t.0 ≡ i + k) × (slice_get (map of xs) k ≡ Some t.1)
named_there name of x i [] t e = none_is e
named_there {B = B} name of x i (a ∷ rest) t e =
    by_name {B = B} (bytes_eq (name a) x) i (of a) (named_from name of x (i + 1) rest) (λ u. (k : ℕ) × (u.0 ≡ i + k) × (slice_get (map of (a ∷ rest)) k ≡ Some u.1))
    (0, omega arith, refl)
    (λ u h. let r = named_there name of x (i + 1) rest u h in (suc r.0, (let s : u.0 ≡ (i + 1) + r.0 = r.1 in omega (arith, s)), r.2)) t e
