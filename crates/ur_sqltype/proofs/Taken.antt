-- What is there of answers made of answers.
use Rattle.std.proofs.Common.{◌≡◌, ◌∙◌, refl, ap, Option, Some, None}
use Rattle.std.specs.Prelude.{option_map, option_and_then}
use Rattle.ur_sqltype.specs.Choice.{if_none, or_else}
use Rattle.ur_sqltype.proofs.Lists.{some_is, none_is}

pub then_taken : {A B : Type 0} (f : A → Option B) (x : Option A) (b : B) → option_and_then f x ≡ Some b → (a : A) × (x ≡ Some a) × (f a ≡ Some b)
then_taken f None b e = none_is e
then_taken f (Some a) b e = (a, refl, e)

pub map_taken : {A B : Type 0} (f : A → B) (x : Option A) (b : B) → option_map f x ≡ Some b → (a : A) × (x ≡ Some a) × (f a ≡ b)
map_taken f None b e = none_is e
map_taken f (Some a) b e = (a, refl, some_is e)

pub none_taken : {A B : Type 0} (t : Option A) (x b : B) → if_none t x ≡ Some b → (t ≡ None) × (x ≡ b)
none_taken None x b e = (refl, some_is e)
none_taken (Some a) x b e = none_is e

pub neither : {A : Type 0} (x y : Option A) → or_else x y ≡ None → (x ≡ None) × (y ≡ None)
neither None y e = (refl, e)
neither (Some a) y e = absurd (cc)

-- ---- what is there makes the whole

pub then_gives : {A B : Type 0} (f : A → Option B) (x : Option A) (a : A) (o : Option B) → x ≡ Some a → f a ≡ o → option_and_then f x ≡ o
then_gives f x a o e h = ap (option_and_then f) e ∙ h

-- ---- what is not there

pub then_none : {A B : Type 0} (f : A → Option B) (x : Option A) → ((a : A) → f a ≡ None) → option_and_then f x ≡ None
then_none f None h = refl
then_none f (Some a) h = h a

pub first_none : {A B : Type 0} (f : A → Option B) (x : Option A) → x ≡ None → option_and_then f x ≡ None
first_none f x e = ap (option_and_then f) e

pub map_none : {A B : Type 0} (f : A → B) (x : Option A) → x ≡ None → option_map f x ≡ None
map_none f x e = ap (option_map f) e

pub found_none : {A B : Type 0} (t : Option A) (a : A) (x : B) → t ≡ Some a → if_none t x ≡ None
found_none t a x e = ap (λ z. if_none z x) e
