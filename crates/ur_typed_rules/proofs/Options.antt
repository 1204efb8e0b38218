-- Options one after another, and tests.
use Rattle.std.proofs.Common.{inl, inr, ◌⊎◌, ◌≡◌, ◌∙◌, refl, ap, Bool, true, false, true≢false, Option, Some, None, List, [], ◌∷◌}
use Rattle.std.specs.Prelude.{◌&&◌, ◌||◌, not, option_map, option_and_then}
use Rattle.std.specs.List.{list_all}
use Rattle.ur_disjoint.proofs.Members.{In}
use Rattle.ur_typed_rules.specs.Rules.{if_so}

-- ---- no answer

pub first_none : {A B : Type 0} (f : A → Option B) (o : Option A) → o ≡ None → option_and_then f o ≡ None
first_none f o h = ap (option_and_then f) h

pub then_none : {A B : Type 0} (f : A → Option B) (o : Option A) (x : A) → o ≡ Some x → f x ≡ None → option_and_then f o ≡ None
then_none f o x h g = ap (option_and_then f) h ∙ g

pub never : {A B : Type 0} (f : A → Option B) (o : Option A) → ((a : A) → f a ≡ None) → option_and_then f o ≡ None
never f None h = refl
never f (Some a) h = h a

pub map_none : {A B : Type 0} (f : A → B) (o : Option A) → o ≡ None → option_map f o ≡ None
map_none f o h = ap (option_map f) h

pub so_none : {A : Type 0} (b : Bool) (o : Option A) → o ≡ None → if_so b o ≡ None
so_none true o h = h
so_none false o h = refl

pub so_false : {A : Type 0} (b : Bool) (o : Option A) → b ≡ false → if_so b o ≡ None
so_false b o h = ap (λ z. if_so z o) h

-- ---- why there is no answer

pub some_none : {A : Type 0} {x : A} → Some x ≡ None → ⊥
some_none e = cc

pub then_none_is : {A B : Type 0} (f : A → Option B) (o : Option A) → option_and_then f o ≡ None → (o ≡ None) ⊎ ((a : A) × (o ≡ Some a) × (f a ≡ None))
then_none_is f None h = inl refl
then_none_is f (Some a) h = inr (a, refl, h)

pub if_none_is : {A : Type 0} (b : Bool) (o : Option A) → if_so b o ≡ None → (b ≡ false) ⊎ (o ≡ None)
if_none_is true o h = inr h
if_none_is false o h = inl refl

pub map_none_is : {A B : Type 0} (f : A → B) (o : Option A) → option_map f o ≡ None → o ≡ None
map_none_is f None h = refl
map_none_is f (Some x) h = absurd (some_none h)

-- ---- answers

pub some_of : {A : Type 0} {x y : A} → Some x ≡ Some y → x ≡ y
some_of e = cc

pub then_some : {A B : Type 0} (f : A → Option B) (o : Option A) (x : A) (y : Option B) → o ≡ Some x → f x ≡ y → option_and_then f o ≡ y
then_some f o x y h g = ap (option_and_then f) h ∙ g

pub opened : {A B : Type 0} (f : A → Option B) (o : Option A) (y : B) → option_and_then f o ≡ Some y → (x : A) × (o ≡ Some x) × (f x ≡ Some y)
opened f None y h = cc
opened f (Some x) y h = (x, refl, h)

pub opened_if : {A : Type 0} (b : Bool) (o : Option A) (y : A) → if_so b o ≡ Some y → (b ≡ true) × (o ≡ Some y)
opened_if true o y h = (refl, h)
opened_if false o y h = cc

pub mapped : {A B : Type 0} (f : A → B) (o : Option A) (y : B) → option_map f o ≡ Some y → (x : A) × (o ≡ Some x) × (f x ≡ y)
mapped f None y h = cc
mapped f (Some x) y h = (x, refl, some_of h)

-- ---- tests

pub and_left : (b c : Bool) → b ≡ false → (b && c) ≡ false
and_left b c h = ap (λ z. z && c) h

pub and_right : (b c : Bool) → c ≡ false → (b && c) ≡ false
and_right true c h = h
and_right false c h = refl

pub second_of : (a b c : Bool) → b ≡ false → (a && (b && c)) ≡ false
second_of a b c h = and_right a (b && c) (and_left b c h)

pub third_of : (a b c d : Bool) → c ≡ false → (a && (b && (c && d))) ≡ false
third_of a b c d h = and_right a (b && (c && d)) (second_of b c d h)

pub fourth_of : (a b c d : Bool) → d ≡ false → (a && (b && (c && d))) ≡ false
fourth_of a b c d h = and_right a (b && (c && d)) (and_right b (c && d) (and_right c d h))

pub both_true : (a b : Bool) → (a && b) ≡ true → (a ≡ true) × (b ≡ true)
both_true true b h = (refl, h)
both_true false b h = cc

pub both_false : (a b : Bool) → (a && b) ≡ false → (a ≡ false) ⊎ (b ≡ false)
both_false true b h = inr h
both_false false b h = inl refl

pub right_false : (a b : Bool) → (a || b) ≡ false → b ≡ false
right_false true b h = absurd (true≢false h)
right_false false b h = h

pub not_false : (b : Bool) → not b ≡ false → b ≡ true
not_false true h = refl
not_false false h = absurd (true≢false h)

pub not_all : {A : Type 0} (p : A → Bool) (x : A) (xs : List A) → In x xs → p x ≡ false → list_all p xs ≡ false
not_all p x [] i h = absurd i
not_all p x (y ∷ ys) (inl e) h = and_left (p y) (list_all p ys) (ap p e ∙ h)
not_all p x (y ∷ ys) (inr i) h = and_right (p y) (list_all p ys) (not_all p x ys i h)

pub not_all_is : {A : Type 0} (p : A → Bool) (xs : List A) → list_all p xs ≡ false → (x : A) × In x xs × (p x ≡ false)
not_all_is p [] h = absurd (true≢false h)
not_all_is {A} p (x ∷ xs) h = not_all_by p x xs (not_all_is p xs) (both_false (p x) (list_all p xs) h) where
  not_all_by : {A : Type 0} (p : A → Bool) (x : A) (xs : List A) → (list_all p xs ≡ false → (y : A) × In y xs × (p y ≡ false)) → (p x ≡ false) ⊎ (list_all p xs ≡ false) → (y : A) × In y (x ∷ xs) × (p y ≡ false)
  not_all_by p x xs k (inl a) = (x, inl refl, a)
  not_all_by p x xs k (inr b) = ((k b).0, inr (k b).1, (k b).2)
