-- Lists of which an element has no value.
use Rattle.std.proofs.Common.{◌≡◌, ◌∙◌, refl, ap, ℕ, zero, suc, ◌<◌, Bool, true, false, List, [], ◌∷◌, ◌++◌, length, Option, Some, None, arith}
use Rattle.std.specs.Prelude.{Contains, if◌then◌else◌, slice_index_or}
use Rattle.std.specs.List.{flat_map}
use Rattle.ur_sqltype.specs.Lists.{and_then, all_of}

nothing_behind : {B : Type 0} (o : Option B) → and_then o None ≡ None
nothing_behind None = refl
nothing_behind (Some b) = refl

none_at : {A B : Type 0} (f : A → Option B) (xs : List A) (k : ℕ) (x : A) → k < length xs → slice_index_or xs k x ≡ x → f x ≡ None → all_of f xs ≡ None
none_at f [] k x l i n = absurd (omega (arith, l))
none_at f (y ∷ ys) zero x l i n = ap (λ m. and_then m (all_of f ys)) (ap f i ∙ n)
none_at f (y ∷ ys) (suc k) x l i n = ap (λ o. and_then (f y) o) (none_at f ys k x (omega (arith, l)) i n) ∙ nothing_behind (f y)

pub none_in : {A B : Type 0} (f : A → Option B) (xs : List A) (x : A) → Contains xs x → f x ≡ None → all_of f xs ≡ None
none_in f xs x c n = none_at f xs c.0 x c.1 c.2 n

-- ---- lists made of lists

and_some : {B : Type 0} (b : B) (o : Option (List B)) → and_then (Some b) o ≡ None → o ≡ None
and_some b None e = refl
and_some b (Some bs) e = absurd (cc)

front_step : {B : Type 0} (m : Option B) (o p : Option (List B)) → (o ≡ None → p ≡ None) → and_then m o ≡ None → and_then m p ≡ None
front_step None o p h e = refl
front_step (Some b) o p h e = ap (λ z. and_then (Some b) z) (h (and_some b o e))

some_none : {A B : Type 0} {x : A} → Some x ≡ None → B
some_none e = absurd (cc)

front_none : {A B : Type 0} (f : A → Option B) (xs ys : List A) → all_of f xs ≡ None → all_of f (xs ++ ys) ≡ None
front_none f [] ys e = some_none e
front_none f (x ∷ xs) ys e = front_step (f x) (all_of f xs) (all_of f (xs ++ ys)) (λ h. front_none f xs ys h) e

rest_none : {A B : Type 0} (f : A → Option B) (xs ys : List A) → all_of f ys ≡ None → all_of f (xs ++ ys) ≡ None
rest_none f [] ys e = e
rest_none f (x ∷ xs) ys e = ap (λ o. and_then (f x) o) (rest_none f xs ys e) ∙ nothing_behind (f x)

flat_none_at : {X A B : Type 0} (f : A → Option B) (g : X → List A) (xs : List X) (k : ℕ) (x : X) → k < length xs → slice_index_or xs k x ≡ x → all_of f (g x) ≡ None → all_of f (flat_map g xs) ≡ None
flat_none_at f g [] k x l i n = absurd (omega (arith, l))
flat_none_at f g (y ∷ ys) zero x l i n = front_none f (g y) (flat_map g ys) (ap (λ z. all_of f (g z)) i ∙ n)
flat_none_at f g (y ∷ ys) (suc k) x l i n = rest_none f (g y) (flat_map g ys) (flat_none_at f g ys k x (omega (arith, l)) i n)

pub flat_none : {X A B : Type 0} (f : A → Option B) (g : X → List A) (xs : List X) (x : X) → Contains xs x → all_of f (g x) ≡ None → all_of f (flat_map g xs) ≡ None
flat_none f g xs x c n = flat_none_at f g xs c.0 x c.1 c.2 n

-- one element without a value
pub one_none : {A B : Type 0} (f : A → Option B) (x : A) → f x ≡ None → all_of f (x ∷ []) ≡ None
one_none f x n = ap (λ m. and_then m (Some [])) n

-- ---- tests

pub if_none_then : {A : Type 0} (b : Bool) (o : Option A) → o ≡ None → (if b then o else None) ≡ None
if_none_then true o e = e
if_none_then false o e = refl

pub if_false : {A : Type 0} (b : Bool) (o : Option A) → b ≡ false → (if b then o else None) ≡ None
if_false b o e = ap (λ z. if z then o else None) e
