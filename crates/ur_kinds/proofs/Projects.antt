-- Modules one by one.
use Rattle.std.proofs.Common.{◌≡◌, refl, ap, ap₂, sym, ◌∙◌, subst, ℕ, zero, suc, ◌+◌, ◌<◌, ◌≤◌, List, [], ◌∷◌, ◌++◌, length, take, get_or, arith, flat_map}
use Rattle.std.proofs.lemmas.List.{take_more, take_all, append_assoc, append-nil}
use Rattle.ur_syntax.specs.declared.decl.Module.{Module}
use Rattle.ur_kinds.specs.Acts.{Act}
use Rattle.ur_kinds.specs.Decls.{in_module, in_modules}
use Rattle.ur_kinds.proofs.Chains.{joined}

one-more : (ns : List (List ℕ)) (xs : List Module) (n : List ℕ) (x : Module) → length ns ≡ length xs → in_modules (ns ++ n ∷ []) (xs ++ x ∷ []) ≡ in_modules ns xs ++ in_module n x
one-more [] [] n x h = append-nil (in_module n x)
one-more [] (y ∷ xs) n x h = absurd (cc)
one-more (m ∷ ns) [] n x h = absurd (cc)
one-more (m ∷ ns) (y ∷ xs) n x h = ap (λ es. in_module m y ++ es) (one-more ns xs n x (less (length ns) (length xs) h)) ∙ sym (append_assoc (in_module m y) (in_modules ns xs) (in_module n x)) where
  less : (a b : ℕ) → suc a ≡ suc b → a ≡ b
  less a b h = omega arith

as-long : (ns : List (List ℕ)) (xs : List Module) (i : ℕ) → length ns ≡ length xs → length (take i ns) ≡ length (take i xs)
as-long [] [] i h = ap length (none i) ∙ sym (ap length (none i)) where
  none : {A : Type 0} (i : ℕ) → take {A = A} i [] ≡ []
  none zero = refl
  none (suc i) = refl
as-long [] (y ∷ xs) i h = absurd (cc)
as-long (m ∷ ns) [] i h = absurd (cc)
as-long (m ∷ ns) (y ∷ xs) zero h = refl
as-long (m ∷ ns) (y ∷ xs) (suc i) h = omega (arith, as-long ns xs i (less (length ns) (length xs) h)) where
  less : (a b : ℕ) → suc a ≡ suc b → a ≡ b
  less a b h = omega arith

pub modules-next : (ns : List (List ℕ)) (xs : List Module) (i : ℕ) (n : List ℕ) (x : Module) (o m z : List Act) → i < length ns → length ns ≡ length xs → n ≡ get_or ns i n → x ≡ get_or xs i x →
    m ≡ o ++ in_modules (take i ns) (take i xs) → z ≡ m ++ in_module n x → z ≡ o ++ in_modules (take (i + 1) ns) (take (i + 1) xs)
modules-next ns xs i n x o m z h l g k e f =
    joined o (in_modules (take i ns) (take i xs)) (in_module n x) e f ∙
    ap (λ es. o ++ es) (sym (ap₂ in_modules (take_more ns i n h ∙ ap (λ y. take i ns ++ y ∷ []) (sym g)) (take_more xs i x (subst (λ k. i < k) l h) ∙ ap (λ y. take i xs ++ y ∷ []) (sym k)) ∙
    one-more (take i ns) (take i xs) n x (as-long ns xs i l)))

pub modules-end : (ns : List (List ℕ)) (xs : List Module) (i : ℕ) (o z : List Act) → length ns ≡ length xs → length ns ≤ i → z ≡ o ++ in_modules (take i ns) (take i xs) → z ≡ o ++ in_modules ns xs
modules-end ns xs i o z l h e = e ∙ ap (λ es. o ++ es) (ap₂ in_modules (take_all i ns h) (take_all i xs (subst (λ k. k ≤ i) l h)))

flat-more : {A : Type 0} (f : A → List Act) (xs : List A) (x : A) → flat_map f (xs ++ x ∷ []) ≡ flat_map f xs ++ f x
flat-more f [] x = append-nil (f x)
flat-more f (y ∷ xs) x = ap (λ es. f y ++ es) (flat-more f xs x) ∙ sym (append_assoc (f y) (flat_map f xs) (f x))

pub flat-next : {A : Type 0} (f : A → List Act) (xs : List A) (i : ℕ) (x : A) (o m z : List Act) → i < length xs → x ≡ get_or xs i x →
    m ≡ o ++ flat_map f (take i xs) → z ≡ m ++ f x → z ≡ o ++ flat_map f (take (i + 1) xs)
flat-next f xs i x o m z h g e k =
    joined o (flat_map f (take i xs)) (f x) e k ∙ ap (λ es. o ++ es) (sym (ap (flat_map f) (take_more xs i x h ∙ ap (λ y. take i xs ++ y ∷ []) (sym g)) ∙ flat-more f (take i xs) x))

pub flat-end : {A : Type 0} (f : A → List Act) (xs : List A) (i : ℕ) (o z : List Act) → length xs ≤ i → z ≡ o ++ flat_map f (take i xs) → z ≡ o ++ flat_map f xs
flat-end f xs i o z h e = e ∙ ap (λ ys. o ++ flat_map f ys) (take_all i xs h)
