-- Why answers made of answers are not there.
use Rattle.std.proofs.lemmas.Bool.Decides.{nat_tests}
use Rattle.std.proofs.Common.{inl, inr, ◌⊎◌, ◌≡◌, ◌∙◌, refl, sym, ap, ℕ, suc, ◌<◌, Bool, true, false, true≢false, List, [], ◌∷◌, ◌++◌, length, Option, Some, None, arith}
use Rattle.std.specs.Prelude.{◌≢◌, IsTrue, ◌≤◌, ◌^◌, nat_lt, nat_eq, if◌then◌else◌, Contains, option_map, option_and_then}
use Rattle.std.specs.List.{flat_map}
use Rattle.ur_values.specs.declared.schema.ColumnKind.{ColumnKind}
use Rattle.ur_values.specs.declared.schema.ColumnKind.TheVariants as kind
use Rattle.ur_base.specs.Codes.{is_refusal_code}
use Rattle.ur_base.specs.declared.refusal.Refusal.{Refusal}
use Rattle.ur_sqltype.specs.Lists.{and_then, all_of, maybe}
use Rattle.ur_sqltype.specs.Choice.{if_none}

-- what a refusal tells, wherever it stands
abbrev pub refused : (c : ℕ) → IsTrue (is_refusal_code c) → List ℕ → List ℕ → Refusal
refused c named x y = record { code = c; span = record { file = 0; «from» = 0; to = 0 }; left = x; right = y; named = named }

pub some_none : {A : Type 0} {x : A} → Some x ≡ None → ⊥
some_none e = cc

pub then_none_is : {A B : Type 0} (f : A → Option B) (o : Option A) → option_and_then f o ≡ None → (o ≡ None) ⊎ ((a : A) × (o ≡ Some a) × (f a ≡ None))
then_none_is f None h = inl refl
then_none_is f (Some a) h = inr (a, refl, h)

pub map_none_is : {A B : Type 0} (f : A → B) (o : Option A) → option_map f o ≡ None → o ≡ None
map_none_is f None h = refl
map_none_is f (Some x) h = absurd (some_none h)

pub maybe_none_is : {A B : Type 0} (f : A → Option B) (o : Option A) → maybe f o ≡ None → (a : A) × (o ≡ Some a) × (f a ≡ None)
maybe_none_is f None h = absurd (some_none h)
maybe_none_is f (Some a) h = (a, refl, map_none_is Some (f a) h)

pub found_is : {A B : Type 0} (o : Option A) (x : B) → if_none o x ≡ None → (a : A) × (o ≡ Some a)
found_is None x h = absurd (some_none h)
found_is (Some a) x h = (a, refl)

pub test_is : {A : Type 0} (b : Bool) (a : A) → (if b then Some a else None) ≡ None → b ≡ false
test_is true a h = absurd (some_none h)
test_is false a h = refl

pub branch_is : {A : Type 0} (b : Bool) (o : Option A) → (if b then o else None) ≡ None → (b ≡ false) ⊎ (o ≡ None)
branch_is true o h = inr h
branch_is false o h = inl refl

pub above : (n : ℕ) → nat_lt n (2 ^ 63) ≡ false → 2 ^ 63 ≤ n
above n e = grind (arith, nat_tests, e)

same_number : (a : ℕ) → nat_eq a a ≡ true
same_number a = grind (arith, nat_tests)

pub unequal : (a b : ℕ) → nat_eq a b ≡ false → a ≢ b
unequal a b h e = true≢false (sym (same_number b) ∙ ap (λ z. nat_eq z b) (sym e) ∙ h)

-- the other branch
pub test_holds : {A : Type 0} (b : Bool) (a : A) → (if b then None else Some a) ≡ None → b ≡ true
test_holds true a h = refl
test_holds false a h = absurd (some_none h)

-- ---- lists

-- an element of a list has no value
abbrev pub Lacks : {A B : Type 0} → (A → Option B) → List A → Type 0
Lacks {A} f xs = (x : A) × Contains xs x × (f x ≡ None)

behind_contains : {A : Type 0} (y : A) (xs : List A) (x : A) → Contains xs x → Contains (y ∷ xs) x
behind_contains y xs x c = let below : c.0 < length xs = c.1 in (suc c.0, omega (arith, below), c.2)

pub first_contains : {A : Type 0} (x : A) (xs : List A) → Contains (x ∷ xs) x
first_contains x xs = (0, omega arith, refl)

and_none_is : {B : Type 0} (m : Option B) (o : Option (List B)) → and_then m o ≡ None → (m ≡ None) ⊎ (o ≡ None)
and_none_is None o h = inl refl
and_none_is (Some b) o h = inr (map_none_is (λ rest. b ∷ rest) o h)

nothing_behind : {B : Type 0} (o : Option B) → and_then o None ≡ None
nothing_behind None = refl
nothing_behind (Some b) = refl

later_lacks : {A B : Type 0} (f : A → Option B) (y : A) (xs : List A) → Lacks f xs → Lacks f (y ∷ xs)
later_lacks f y xs l = (l.0, behind_contains y xs l.0 l.1, l.2)

pub lacks : {A B : Type 0} (f : A → Option B) (xs : List A) → all_of f xs ≡ None → Lacks f xs
lacks f [] h = absurd (some_none h)
lacks f (x ∷ xs) h = elim (and_none_is (f x) (all_of f xs) h) [ inl a ↦ (x, first_contains x xs, a) | inr b ↦ later_lacks f x xs (lacks f xs b) ]

either_lacks : {A B : Type 0} (f : A → Option B) (xs ys : List A) → all_of f (xs ++ ys) ≡ None → (all_of f xs ≡ None) ⊎ (all_of f ys ≡ None)
either_lacks f [] ys h = inr h
either_lacks f (x ∷ xs) ys h = elim (and_none_is (f x) (all_of f (xs ++ ys)) h) [
  | inl a ↦ inl (ap (λ m. and_then m (all_of f xs)) a)
  | inr b ↦ elim (either_lacks f xs ys b) [ inl c ↦ inl (ap (λ o. and_then (f x) o) c ∙ nothing_behind (f x)) | inr d ↦ inr d ]
]

-- the lists of one element lack a value
abbrev pub FlatLacks : {X A B : Type 0} → (A → Option B) → (X → List A) → List X → Type 0
FlatLacks {X} f g xs = (x : X) × Contains xs x × (all_of f (g x) ≡ None)

later_flat : {X A B : Type 0} (f : A → Option B) (g : X → List A) (y : X) (xs : List X) → FlatLacks f g xs → FlatLacks f g (y ∷ xs)
later_flat f g y xs l = (l.0, behind_contains y xs l.0 l.1, l.2)

pub flat_lacks : {X A B : Type 0} (f : A → Option B) (g : X → List A) (xs : List X) → all_of f (flat_map g xs) ≡ None → FlatLacks f g xs
flat_lacks f g [] h = absurd (some_none h)
flat_lacks f g (x ∷ xs) h = elim (either_lacks f (g x) (flat_map g xs) h) [ inl a ↦ (x, first_contains x xs, a) | inr b ↦ later_flat f g x xs (flat_lacks f g xs b) ]

pub only_lacks : {A B : Type 0} (f : A → Option B) (x : A) → all_of f (x ∷ []) ≡ None → f x ≡ None
only_lacks f x h = elim (and_none_is (f x) (Some []) h) [ inl a ↦ a | inr b ↦ absurd (some_none b) ]
