-- SOMEs among terms, by their symbol.
use Rattle.std.proofs.Common.{◌≡◌, ℕ, Bool, true, false, ◌==◌, inl, inr, List, [], ◌∷◌, Option, Some, None, refl, ap, ◌∙◌}
use Rattle.std.specs.List.{AllByRecursion}
use Rattle.ur_sql.specs.declared.term.SqlTerm.{SqlTerm, more_of-SqlTerm as more, end_of-SqlTerm as none}
use Rattle.ur_sql.specs.declared.term.SqlTerm.TheVariants as t
use Rattle.ur_sql.proofs.Members.{In}
use Rattle.ur_congruence.specs.Derives.{some_symbol}
use Rattle.ur_conditions.specs.Terms.{application}
use Rattle.ur_conditions.specs.Patterns.{is_some}

-- a SOME is the symbol at what stands inside
pub some_shape : (a : SqlTerm) → is_some a ≡ true → (b : SqlTerm) × (application a ≡ Some (some_symbol, b ∷ []))
some_shape (t.Present' _ (more a none)) e = (a, refl)
some_shape _ e = cc

abbrev has_symbol : Option (ℕ × List SqlTerm) → Bool
has_symbol None = false
has_symbol (Some x) = x.0 == some_symbol

told_by_symbol : (a : SqlTerm) → is_some a ≡ has_symbol (application a)
told_by_symbol (t.Add' _ (more a none) _ (more b none)) = refl
told_by_symbol (t.Sub' _ (more a none) _ (more b none)) = refl
told_by_symbol (t.Mul' _ (more a none) _ (more b none)) = refl
told_by_symbol (t.Neg' _ (more a none)) = refl
told_by_symbol (t.Present' _ (more a none)) = refl
told_by_symbol _ = refl

-- what is the symbol at terms is a SOME
pub symbol_is : (a : SqlTerm) (parts : List SqlTerm) → application a ≡ Some (some_symbol, parts) → is_some a ≡ true
symbol_is a parts e = told_by_symbol a ∙ ap has_symbol e

pub all_by_members : {X : Type 0} (P : X → Type 0) (xs : List X) → ((x : X) → In x xs → P x) → AllByRecursion P xs
all_by_members P [] h = tt
all_by_members P (x ∷ xs) h = (h x (inl refl), all_by_members P xs (λ y i. h y (inr i)))
