-- Lists that begin with others.
use Rattle.std.proofs.lemmas.List.{length-append, append-nil}
use Rattle.std.proofs.Common.{arith, ◌≡◌, ◌∙◌, refl, sym, ap, Some, List, [], ◌∷◌, ◌++◌, ℕ, suc, ◌+◌, length, take}
use Rattle.std.specs.Prelude.{slice_get}
use mathlib.Core.List.{append_assoc}
use Rattle.ur_typed.proofs.Shapes.{front_get}
use Rattle.ur_typed_laws.proofs.Extending.{Begins}

pub begins_whole : {A : Type 0} (xs ys : List A) → ys ≡ xs → Begins xs ys
begins_whole xs ys e = record { more = []; are = e ∙ sym (append-nil xs) }

pub begins_before : {A : Type 0} (xs zs ys : List A) → Begins (xs ++ zs) ys → Begins xs ys
begins_before xs zs ys b = record { more = zs ++ b.more; are = b.are ∙ append_assoc xs zs b.more }

last_got : {A : Type 0} (xs rest : List A) (x : A) → slice_get ((xs ++ x ∷ []) ++ rest) (length xs) ≡ Some x
last_got [] rest x = refl
last_got (y ∷ xs) rest x = last_got xs rest x

-- what stands behind the beginning
pub begun_last : {A : Type 0} (xs ys : List A) (x : A) (n : ℕ) → Begins (xs ++ x ∷ []) ys → length xs ≡ n → slice_get ys n ≡ Some x
begun_last xs ys x n b e = ap (slice_get ys) (sym e) ∙ (ap (λ z. slice_get z (length xs)) b.are ∙ last_got xs b.more x)

pub begun_get : {A : Type 0} (xs ys : List A) (n : ℕ) (x : A) → Begins xs ys → slice_get xs n ≡ Some x → slice_get ys n ≡ Some x
begun_get xs ys n x b h = ap (λ z. slice_get z n) b.are ∙ front_get xs b.more n x h

take_front : {A : Type 0} (xs rest : List A) → take (length xs) (xs ++ rest) ≡ xs
take_front [] [] = refl
take_front [] (y ∷ rest) = refl
take_front (x ∷ xs) rest = ap (λ z. x ∷ z) (take_front xs rest)

pub take_begun : {A : Type 0} (xs ys : List A) (n : ℕ) → Begins xs ys → length xs ≡ n → take n ys ≡ xs
take_begun xs ys n b e = ap (λ k. take k ys) (sym e) ∙ (ap (take (length xs)) b.are ∙ take_front xs b.more)

-- ---- one more

pub longer : {A : Type 0} (xs : List A) (x : A) (n : ℕ) → length xs ≡ n → length (xs ++ x ∷ []) ≡ n + 1
longer xs x n e = length-append xs (x ∷ []) ∙ ap (λ k. k + 1) e

pub longer_suc : {A : Type 0} (xs : List A) (x : A) (n : ℕ) → length xs ≡ n → length (xs ++ x ∷ []) ≡ suc n
longer_suc xs x n e = let i : n + 1 ≡ suc n = omega arith in longer xs x n e ∙ i
