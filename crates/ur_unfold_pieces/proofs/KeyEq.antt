-- The test `==` of keys decides equality.
use Rattle.std.proofs.Common.{◌≡◌, ℕ, Bool, true, List, refl, ap, Decides}
use Rattle.std.specs.Prelude.{◌&&◌, nat_eq}
use Rattle.std.specs.Cmp.Lexicographic.{pointwise}
use Rattle.std.proofs.lemmas.Bool.Decides.{Decides-and, Decides-eqb, Decides-like}
use Rattle.std.proofs.lemmas.Slice.Eq.{slice_eq-Decides}
use Rattle.ur_unfold_pieces.specs.declared.opening.Key.{Key}
use Rattle.ur_unfold_pieces.specs.contracts.opening.KeyPartialEq.TheImpl as key_test

abbrev pub key_eq : Key → Key → Bool
key_eq a b = key_test.eq-value.it a b

abbrev numbers_eq : List ℕ → List ℕ → Bool
numbers_eq = pointwise (λ x y. nat_eq x y)

numbers_decide : (xs ys : List ℕ) → Decides (numbers_eq xs ys) (xs ≡ ys)
numbers_decide xs ys = slice_eq-Decides Decides-eqb xs ys (numbers_eq xs ys) refl

key_of : (k l : ℕ) (js is fs gs : List ℕ) → (k ≡ l) × ((js ≡ is) × (fs ≡ gs)) → ◌≡◌ {A = Key} (record { function = k; cons = js; fixed = fs }) (record { function = l; cons = is; fixed = gs })
key_of k l js is fs gs h = rw (h.0, h.1.0, h.1.1) refl

keys_decide : (a b : Key) → Decides (key_eq a b) (a ≡ b)
keys_decide a b =
    Decides-like (key_eq a b) (key_of a.function b.function a.cons b.cons a.fixed b.fixed) (λ e. (ap (λ k. k.function) e, (ap (λ k. k.cons) e, ap (λ k. k.fixed) e)))
    (Decides-and (nat_eq a.function b.function) (numbers_eq a.cons b.cons && numbers_eq a.fixed b.fixed) (Decides-eqb a.function b.function)
    (Decides-and (numbers_eq a.cons b.cons) (numbers_eq a.fixed b.fixed) (numbers_decide a.cons b.cons) (numbers_decide a.fixed b.fixed)))

pub eq_sound : (a b : Key) → key_eq a b ≡ true → a ≡ b
eq_sound a b = (keys_decide a b).0

pub eq_complete : (a : Key) → key_eq a a ≡ true
eq_complete a = (keys_decide a a).1 refl
