-- What a search for a key says, and a new key at the end.
use Rattle.std.proofs.Common.{◌≡◌, ℕ, Bool, true, false, ◌⊎◌, inl, inr, List, [], ◌∷◌, ◌++◌, get_or, Some, refl, ap, sym, ◌∙◌}
use Rattle.std.specs.Prelude.{slice_get, position, ◌||◌, if◌then◌else◌}
use Rattle.std.specs.List.{list_any}
use Rattle.std.proofs.lemmas.Bool.{false≢true}
use Rattle.std.proofs.lemmas.List.Quantifiers.{position-Some}
use Rattle.std.proofs.lemmas.Option.{slice_get-get_or}
use Rattle.ur_unfold_static.specs.Lists.{IsAbsent}

neither : (a b : Bool) → (a || b) ≡ false → (a ≡ false) × (b ≡ false)
neither false false same = (refl, refl)
neither false true same = cc
neither true b same = cc

or_false : (a b : Bool) → a ≡ false → b ≡ false → (a || b) ≡ false
or_false a b p q = rw (p, q) refl

bool_cases : (b : Bool) → (b ≡ true) ⊎ (b ≡ false)
bool_cases true = inl refl
bool_cases false = inr refl

module _ {A : Type 0} (eq : A → A → Bool) (sound : (a b : A) → eq a b ≡ true → a ≡ b) (complete : (a : A) → eq a a ≡ true) where
  pub key_at : (k : A) (xs : List A) (i : ℕ) → position (eq k) xs ≡ Some i → slice_get xs i ≡ Some k
  key_at k [] i found = cc
  key_at k (x ∷ xs) i found =
      let at = position-Some (eq k) (x ∷ xs) i x found in
      slice_get-get_or (x ∷ xs) i x at.0 ∙ ap Some (sym (sound k (get_or (x ∷ xs) i x) at.1))

  pub no_key : (k : A) (xs : List A) → list_any (eq k) xs ≡ false → IsAbsent xs k
  no_key k [] none = tt
  no_key k (x ∷ xs) none =
      let parts = neither (eq k x) (list_any (eq k) xs) none in
      (λ same. false≢true (sym parts.0 ∙ ap (eq k) same ∙ complete k), no_key k xs parts.1)

  new_any : (k : A) (xs : List A) → IsAbsent xs k → list_any (eq k) xs ≡ false
  new_any k [] all = refl
  new_any k (x ∷ xs) all =
      or_false (eq k x) (list_any (eq k) xs)
      (elim (bool_cases (eq k x)) [
        | inl hit ↦ absurd (all.0 (sym (sound k x hit)))
        | inr miss ↦ miss
      ]) (new_any k xs all.1)

  pub last_key : (k : A) (xs new : List A) → IsAbsent xs k → new ≡ (if list_any (eq k) xs then xs else xs ++ k ∷ []) → new ≡ xs ++ k ∷ []
  last_key k xs new all is = is ∙ ap (λ (b : Bool). if b then xs else xs ++ k ∷ []) (new_any k xs all)
