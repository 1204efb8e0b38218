-- Marks of one function after another.
use Rattle.std.proofs.Common.{◌≡◌, ◌∙◌, refl, sym, ap, ℕ, zero, suc, ◌+◌, ◌<◌, ◌≤◌, List, [], ◌∷◌, ◌++◌, map, length, drop, take, get_or, arith, drop_of_length-le}
use Rattle.std.proofs.lemmas.List.{drop_more}
use Rattle.ur_check_scopes.proofs.Loops.{drop-none}
use Rattle.ur_check_heads.specs.declared.aims.Aims.{Aims}
use Rattle.ur_check_heads.specs.Aims.{with_get, marked, linked_by}

pub linked-start : (ns : List ℕ) (a : Aims) → linked_by (drop 0 ns) a ≡ linked_by ns a
linked-start ns a = ap (λ l. linked_by l a) (drop-none ns)

pub linked-past : (ns : List ℕ) (i d : ℕ) (a s t : Aims) → i < length ns → t ≡ marked with_get (get_or ns i d) s → linked_by (drop i ns) s ≡ linked_by ns a → linked_by (drop (i + 1) ns) t ≡ linked_by ns a
linked-past ns i d a s t h e inv = ap (linked_by (drop (i + 1) ns)) e ∙ sym (ap (λ l. linked_by l s) (drop_more ns i d h)) ∙ inv

pub linked-end : (ns : List ℕ) (i : ℕ) (a s : Aims) → length ns ≤ i → linked_by (drop i ns) s ≡ linked_by ns a → s ≡ linked_by ns a
linked-end ns i a s h inv = sym (ap (λ l. linked_by l s) (drop_of_length-le ns h)) ∙ inv

const-one : {A B : Type 0} (b : B) (xs : List A) (i : ℕ) → i < length xs → map (λ x. b) (take i xs) ++ b ∷ [] ≡ map (λ x. b) (take (suc i) xs)
const-one b [] i h = absurd (omega (arith, h))
const-one b (x ∷ xs) zero h = refl
const-one b (x ∷ xs) (suc i) h = ap (λ l. b ∷ l) (const-one b xs i (omega (arith, h)))

one-more : (i : ℕ) → suc i ≡ i + 1
one-more i = omega arith

pub const-next : {A B : Type 0} (b : B) (xs : List A) (i : ℕ) (ys zs : List B) → i < length xs → zs ≡ ys ++ b ∷ [] → ys ≡ map (λ x. b) (take i xs) → zs ≡ map (λ x. b) (take (i + 1) xs)
const-next b xs i ys zs h e inv = e ∙ ap (λ l. l ++ b ∷ []) inv ∙ const-one b xs i h ∙ ap (λ n. map (λ x. b) (take n xs)) (one-more i)

const-whole : {A B : Type 0} (b : B) (xs : List A) (i : ℕ) → length xs ≤ i → map (λ x. b) (take i xs) ≡ map (λ x. b) xs
const-whole b [] zero h = refl
const-whole b [] (suc i) h = refl
const-whole b (x ∷ xs) zero h = absurd (omega (arith, h))
const-whole b (x ∷ xs) (suc i) h = ap (λ l. b ∷ l) (const-whole b xs i (omega (arith, h)))

pub const-end : {A B : Type 0} (b : B) (xs : List A) (i : ℕ) (ys : List B) → length xs ≤ i → ys ≡ map (λ x. b) (take i xs) → ys ≡ map (λ x. b) xs
const-end b xs i ys h inv = inv ∙ const-whole b xs i h
