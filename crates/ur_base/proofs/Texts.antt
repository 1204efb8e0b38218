-- Looking a text up in a list whose elements each show a text.
use Rattle.std.proofs.Common.{◌≡◌, ◌∙◌, ℕ, false, List, [], ◌∷◌, Some, map, refl, ap, sym, get_or}
use Rattle.std.specs.Prelude.{bytes_eq, slice_get, position, Contains, option_map, ◌||◌, ◌++◌, if◌then◌else◌}
use Rattle.std.specs.List.{list_any}
use Rattle.std.specs.Cmp.Lexicographic.{bytes_decides, nat_list_eq_equiv}
use Rattle.std.proofs.lemmas.List.{map-append}
use Rattle.std.proofs.lemmas.List.Quantifiers.{position-Some}
use Rattle.std.proofs.lemmas.Option.{slice_get-map, slice_get-get_or}
use Rattle.std.proofs.lemmas.Map.Views.{list_any-from_Contains}

module _ {A : Type 0} (text_of : A → List ℕ) where
  -- the test is the same on the texts
  pub list_any-texts : (text : List ℕ) (xs : List A) → list_any (λ x. bytes_eq text (text_of x)) xs ≡ list_any (bytes_eq text) (map text_of xs)
  list_any-texts text [] = refl
  list_any-texts text (x ∷ xs) = ap (λ b. bytes_eq text (text_of x) || b) (list_any-texts text xs)

  found_at : (text : List ℕ) (xs : List A) (i : ℕ) (d : A)
      → position (λ x. bytes_eq text (text_of x)) xs ≡ Some i → slice_get (map text_of xs) i ≡ Some text
  found_at text xs i d found =
      let at = position-Some (λ x. bytes_eq text (text_of x)) xs i d found in
      let same = (bytes_decides text (text_of (get_or xs i d))).0 at.1 in
      slice_get-map text_of xs i ∙ ap (option_map text_of) (slice_get-get_or xs i d at.0) ∙ ap Some (sym same)

  -- the text stands where it is found
  pub slice_get-found : (text : List ℕ) (xs : List A) (i : ℕ)
      → position (λ x. bytes_eq text (text_of x)) xs ≡ Some i → slice_get (map text_of xs) i ≡ Some text
  slice_get-found text [] i found = cc
  slice_get-found text (x ∷ xs) i found = found_at text (x ∷ xs) i x found

  -- the texts after a new one is added last
  pub texts-added : (text : List ℕ) (xs new : List A) (x : A) → text_of x ≡ text → list_any (bytes_eq text) (map text_of xs) ≡ false
      → new ≡ (if list_any (λ y. bytes_eq (text_of x) (text_of y)) xs then xs else xs ++ x ∷ [])
      → map text_of new ≡ map text_of xs ++ text ∷ []
  texts-added text xs new x same absent is =
      let none : list_any (λ y. bytes_eq (text_of x) (text_of y)) xs ≡ false = rw same (list_any-texts text xs ∙ absent) in
      let last : new ≡ xs ++ x ∷ [] = is ∙ ap (λ b. if b then xs else xs ++ x ∷ []) none in
      rw last (map-append text_of xs (x ∷ []) ∙ ap (λ t. map text_of xs ++ t ∷ []) same)

-- a text that no test finds is not there
pub absent_text : (text : List ℕ) (texts : List (List ℕ)) → list_any (bytes_eq text) texts ≡ false → Contains texts text → ⊥
absent_text text texts none there = let found = list_any-from_Contains nat_list_eq_equiv text texts there in cc
