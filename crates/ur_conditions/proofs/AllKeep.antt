-- The laws for each update and each site.
use Rattle.std.proofs.Common.{◌≡◌, ℕ, ◌+◌, inl, inr, List, [], ◌∷◌, ap, length, All}
use Rattle.std.specs.List.{AllZip, AllByRecursion, enumerate_from}
use Rattle.std.proofs.lemmas.List.Elements.{All-contains, All-from_recursion}
use Rattle.ur_values.specs.declared.schema.Schema.{Schema}
use Rattle.ur_sql.specs.declared.query.Query.{Query}
use Rattle.ur_sql.specs.declared.change.Change.{Change}
use Rattle.ur_sql.specs.declared.pattern.Pattern.{Pattern}
use Rattle.ur_sql.specs.Typing.{QueryFits, ChangeFits}
use Rattle.ur_conditions.specs.declared.patterns.Patterns.{Patterns}
use Rattle.ur_conditions.specs.Patterns.{ArePatterns, AreAllPatterns}
use Rattle.ur_conditions.specs.Law.{KeepsAnswers, IsSoundInvalidation, ReadArguments}
use Rattle.ur_conditions.specs.Masks.{PatternReads}
use Rattle.ur_sql.proofs.Members.{In, contains_from_in}
use Rattle.ur_conditions.proofs.Keeps.{patterns_keep}
use Rattle.ur_conditions.proofs.Atoms.{patterns_read}

zip_weaker : {X Y : Type 0} (R S : X → Y → Type 0) (xs : List X) (ys : List Y) → ((x : X) (y : Y) → In x xs → R x y → S x y) → AllZip R xs ys → AllZip S xs ys
zip_weaker R S [] [] f z = tt
zip_weaker R S [] (y ∷ ys) f z = absurd z
zip_weaker R S (x ∷ xs) [] f z = absurd z
zip_weaker R S (x ∷ xs) (y ∷ ys) f z = (f x y (inl Rattle.std.proofs.Common.refl) (z.0), zip_weaker R S xs ys (λ a b i r. f a b (inr i) r) (z.1))

in_numbered : {X : Type 0} (n : ℕ) (xs : List X) (p : ℕ × X) → In p (enumerate_from n xs) → In (p.1) xs
in_numbered n [] p h = absurd h
in_numbered {X} n (x ∷ xs) p (inl e) = inl (ap (λ (q : ℕ × X). q.1) e)
in_numbered n (x ∷ xs) p (inr h) = inr (in_numbered (n + 1) xs p h)

pub all_keep : (schema : Schema) (queries : List Query) (changes : List Change) (patterns : Patterns) → All (QueryFits schema) queries → All (ChangeFits schema) changes
    → AreAllPatterns queries changes patterns → IsSoundInvalidation schema queries changes patterns
all_keep schema queries changes patterns qs us are =
    zip_weaker (λ u lists. AllZip (λ (site : ℕ × Query) list. ArePatterns (site.0) (site.1) u list) (enumerate_from 0 queries) lists)
    (λ u lists. AllZip (λ (site : ℕ × Query) list. KeepsAnswers schema (site.0) (site.1) u list) (enumerate_from 0 queries) lists) changes patterns.updates
    (λ u lists i. zip_weaker (λ (site : ℕ × Query) list. ArePatterns (site.0) (site.1) u list) (λ (site : ℕ × Query) list. KeepsAnswers schema (site.0) (site.1) u list) (enumerate_from 0 queries) lists
    (λ site list j a. patterns_keep schema (site.0) (site.1) u list
    (All-contains (QueryFits schema) queries (site.1) qs (contains_from_in queries (site.1) (in_numbered 0 queries site j)))
    (All-contains (ChangeFits schema) changes u us (contains_from_in changes u i)) a)) are

right_ones : {X Y : Type 0} (R : X → Y → Type 0) (P : Y → Type 0) (xs : List X) (ys : List Y) → ((x : X) (y : Y) → In x xs → R x y → P y) → AllZip R xs ys → AllByRecursion P ys
right_ones R P [] [] f z = tt
right_ones R P [] (y ∷ ys) f z = absurd z
right_ones R P (x ∷ xs) [] f z = absurd z
right_ones R P (x ∷ xs) (y ∷ ys) f z = (f x y (inl Rattle.std.proofs.Common.refl) (z.0), right_ones R P xs ys (λ a b i r. f a b (inr i) r) (z.1))

pub all_read : (schema : Schema) (queries : List Query) (changes : List Change) (patterns : Patterns) → All (QueryFits schema) queries → All (ChangeFits schema) changes
    → AreAllPatterns queries changes patterns → ReadArguments changes patterns
all_read schema queries changes patterns qs us are =
    zip_weaker (λ u lists. AllZip (λ (site : ℕ × Query) list. ArePatterns (site.0) (site.1) u list) (enumerate_from 0 queries) lists)
    (λ (u : Change) lists. All (λ (list : List Pattern). All (PatternReads (length u.params)) list) lists) changes patterns.updates
    (λ u lists i z. All-from_recursion (λ (list : List Pattern). All (PatternReads (length u.params)) list) lists
    (right_ones (λ (site : ℕ × Query) list. ArePatterns (site.0) (site.1) u list) (λ (list : List Pattern). All (PatternReads (length u.params)) list) (enumerate_from 0 queries) lists
    (λ site list j a. patterns_read schema (site.0) (site.1) u list
    (All-contains (QueryFits schema) queries (site.1) qs (contains_from_in queries (site.1) (in_numbered 0 queries site j)))
    (All-contains (ChangeFits schema) changes u us (contains_from_in changes u i)) a) z)) are
