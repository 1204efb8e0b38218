-- The values of the fields of a name, field by field.
use Rattle.std.proofs.Common.{◌≡◌, ℕ, ◌+◌, ◌<◌, ◌||◌, Bool, true, false, List, [], ◌∷◌, ◌++◌, length, take, get_or, map, refl, sym, ap, subst, ◌∙◌, arith, Bor, append-nil}
use Rattle.std.specs.List.{list_any}
use Rattle.std.proofs.lemmas.Grind.{common_steps}
use Rattle.ur_http.specs.declared.fields.Field.{Field}
use Rattle.ur_http.specs.declared.fields.Only.{Only}
use Rattle.ur_http.specs.declared.fields.Only.TheVariants.{Missing, One, Several}
use Rattle.ur_http.specs.Fields.{is_named, values_of}
use Rattle.ur_http.specs.Reading.{field_pair, IsOnly}

pub values_yes : (name : List ℕ) (f : List ℕ × List ℕ) (fs : List (List ℕ × List ℕ)) → is_named name f ≡ true → values_of name (f ∷ fs) ≡ f.1 ∷ values_of name fs
values_yes name f fs e = rw e refl

pub values_no : (name : List ℕ) (f : List ℕ × List ℕ) (fs : List (List ℕ × List ℕ)) → is_named name f ≡ false → values_of name (f ∷ fs) ≡ values_of name fs
values_no name f fs e = rw e refl

pub values_of-append : (name : List ℕ) (fs gs : List (List ℕ × List ℕ)) → values_of name (fs ++ gs) ≡ values_of name fs ++ values_of name gs
values_of-append name [] gs = refl
values_of-append name (f ∷ fs) gs = by_case (is_named name f) refl (values_of-append name fs gs) where
  by_case : (v : Bool) → is_named name f ≡ v → values_of name (fs ++ gs) ≡ values_of name fs ++ values_of name gs
      → values_of name ((f ∷ fs) ++ gs) ≡ values_of name (f ∷ fs) ++ values_of name gs
  by_case true e same = values_yes name f (fs ++ gs) e ∙ ap (λ t. f.1 ∷ t) same ∙ sym (ap (λ t. t ++ values_of name gs) (values_yes name f fs e))
  by_case false e same = values_no name f (fs ++ gs) e ∙ same ∙ sym (ap (λ t. t ++ values_of name gs) (values_no name f fs e))

-- one field more
pub one_more : (fs : List Field) (i : ℕ) (d : Field) → i < length fs → map field_pair (take (i + 1) fs) ≡ map field_pair (take i fs) ++ field_pair (get_or fs i d) ∷ []
one_more fs i d within = grind (arith, common_steps)

-- what was found, and a field more
abbrev pub Joins : Only → Only → List ℕ → List ℕ × List ℕ → Type 0
Joins found result name f = (values : List (List ℕ)) → IsOnly found values → IsOnly result (values ++ values_of name (f ∷ []))

pub joins_other : (found : Only) (name : List ℕ) (f : List ℕ × List ℕ) → is_named name f ≡ false → Joins found found name f
joins_other found name f e values is = subst (IsOnly found) (sym (append-nil values) ∙ ap (λ t. values ++ t) (sym (values_no name f [] e))) is

pub joins_first : (v : Bor (List ℕ)) (name : List ℕ) (f : List ℕ × List ℕ) → is_named name f ≡ true → v.now ≡ f.1 → Joins Missing (One v) name f
joins_first v name f e same values is = ap (λ t. t ++ values_of name (f ∷ [])) is ∙ values_yes name f [] e ∙ ap (λ t. t ∷ []) (sym same)

pub joins_second : (u : Bor (List ℕ)) (name : List ℕ) (f : List ℕ × List ℕ) → is_named name f ≡ true → Joins (One u) Several name f
joins_second u name f e values is = (u.now, f.1, [], ap (λ t. t ++ values_of name (f ∷ [])) is ∙ ap (λ t. u.now ∷ t) (values_yes name f [] e))

pub joins_more : (name : List ℕ) (f : List ℕ × List ℕ) → is_named name f ≡ true → Joins Several Several name f
joins_more name f e values (a, b, more, is) = (a, b, more ++ f.1 ∷ [], ap (λ t. t ++ values_of name (f ∷ [])) is ∙ ap (λ t. a ∷ b ∷ (more ++ t)) (values_yes name f [] e))

pub only_step : (fs : List Field) (i : ℕ) (d : Field) (name : List ℕ) (found result : Only) → i < length fs
    → IsOnly found (values_of name (map field_pair (take i fs))) → Joins found result name (field_pair (get_or fs i d))
    → IsOnly result (values_of name (map field_pair (take (i + 1) fs)))
only_step fs i d name found result within is joins =
    subst (IsOnly result)
    (sym (ap (values_of name) (one_more fs i d within) ∙ values_of-append name (map field_pair (take i fs)) (field_pair (get_or fs i d) ∷ [])))
    (joins (values_of name (map field_pair (take i fs))) is)

pub list_any_of : (p : List ℕ × List ℕ → Bool) (fs : List Field) → list_any p (map field_pair fs) ≡ list_any (λ f. p (field_pair f)) fs
list_any_of p [] = refl
list_any_of p (f ∷ fs) = ap (λ v. p (field_pair f) || v) (list_any_of p fs)
