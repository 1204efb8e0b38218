-- The patterns of typed queries and changes.
use Rattle.std.proofs.Common.{◌≡◌, ℕ, ◌≤◌, ◌⊎◌, inl, inr, List, [], ◌∷◌, All, length, take, refl, ap, ◌∙◌, subst}
use Rattle.std.specs.List.{AllZip, AllByRecursion}
use Rattle.std.proofs.lemmas.List.{take_all}
use Rattle.std.proofs.lemmas.List.Elements.{All-from_recursion, All-weaker}
use Rattle.ur_values.specs.declared.schema.Schema.{Schema}
use Rattle.ur_sql.specs.declared.pattern.Pattern.{Pattern}
use Rattle.ur_sql.specs.declared.query.Query.{Query}
use Rattle.ur_sql.specs.declared.change.Change.{Change}
use Rattle.ur_sql.specs.Typing.{QueryFits, ChangeFits}
use Rattle.ur_sql.proofs.Members.{In}
use Rattle.ur_conditions.specs.declared.pair.Pair.{Pair}
use Rattle.ur_conditions.specs.Disjuncts.{Equation}
use Rattle.ur_conditions.specs.Terms.{HasAtoms}
use Rattle.ur_conditions.specs.Pairs.{pairs_of, AreAtoms}
use Rattle.ur_conditions.specs.Patterns.{AreAllPatterns}
use Rattle.ur_conditions.proofs.Atoms.{pair_atoms}
use Rattle.ur_invalidate.specs.Reading.{AreSitePatterns}

all_from_in : {X : Type 0} (P : X → Type 0) (xs : List X) → ((x : X) → In x xs → P x) → AllByRecursion P xs
all_from_in P [] f = tt
all_from_in P (x ∷ xs) f = (f x (inl refl), all_from_in P xs (λ y i. f y (inr i)))

abbrev BothAtoms : Equation → Type 0
BothAtoms e = HasAtoms (e.0) × HasAtoms (e.1)

-- the constants of the pairs of typed statements are ints, bools and texts
pub typed_atoms : (schema : Schema) (queries : List Query) (u : Change) → All (QueryFits schema) queries → ChangeFits schema u → All (λ q. All AreAtoms (pairs_of q u)) queries
typed_atoms schema queries u fits fit = All-weaker (QueryFits schema) (λ q. All AreAtoms (pairs_of q u)) each queries fits
  where
    each : (q : Query) → QueryFits schema q → All AreAtoms (pairs_of q u)
    each q q_fit = All-from_recursion AreAtoms (pairs_of q u) (all_from_in AreAtoms (pairs_of q u) (λ p i.
        let atoms = pair_atoms schema q u q_fit.typed fit p i in
        (All-from_recursion BothAtoms p.equations atoms.equations, All-from_recursion BothAtoms p.disequations atoms.disequations)))

-- of all changes
pub all_patterns : (qs queries : List Query) (us changes : List Change) (n : ℕ) (updates : List (List (List Pattern))) → qs ≡ queries → us ≡ changes → length us ≤ n
    → AllZip (AreSitePatterns qs) (take n us) updates → AreAllPatterns queries changes (record { updates = updates })
all_patterns qs queries us changes n updates are_queries are_changes far all =
    subst (λ (q : List Query). AllZip (AreSitePatterns q) changes updates) are_queries (subst (λ (u : List Change). AllZip (AreSitePatterns qs) u updates) (take_all n us far ∙ are_changes) all)
