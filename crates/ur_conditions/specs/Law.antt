-- The law of sound invalidation.
use Rattle.std.specs.Prelude.{◌≡◌, ℕ, false, All, List, length}
use Rattle.std.specs.List.{list_any, AllZip, enumerate_from}
use Rattle.ur_values.specs.declared.value.Value.{Value}
use Rattle.ur_values.specs.declared.schema.Schema.{Schema}
use Rattle.ur_values.specs.Store.{Store, FitsSchema, FitKinds}
use Rattle.ur_sql.specs.declared.query.Query.{Query}
use Rattle.ur_sql.specs.declared.change.Change.{Change}
use Rattle.ur_sql.specs.declared.pattern.Pattern.{Pattern}
use Rattle.ur_sql.specs.Answer.{answer}
use Rattle.ur_sql.specs.Change.{After, change}
use Rattle.ur_cacheindex.specs.Matching.{matches}
use Rattle.ur_conditions.specs.declared.patterns.Patterns.{Patterns}
use Rattle.ur_conditions.specs.Masks.{PatternReads, masks_of}

-- An update leaves the answer at each key that none of its masks matches.
abbrev pub KeepsAnswers : Schema → ℕ → Query → Change → List Pattern → Type 0
KeepsAnswers schema site q u patterns =
    (before after : Store) (args key : List Value)
    → FitsSchema schema before → FitKinds args u.params → FitKinds key q.params
    → change schema u args before ≡ After after
    → list_any (λ m. matches m site key) (masks_of args patterns) ≡ false
    → answer q key after ≡ answer q key before

-- so it is for each update and each site
abbrev pub IsSoundInvalidation : Schema → List Query → List Change → Patterns → Type 0
IsSoundInvalidation schema queries changes patterns =
    AllZip (λ u lists. AllZip (λ site list. KeepsAnswers schema site.0 site.1 u list) (enumerate_from 0 queries) lists) changes patterns.updates

-- each pattern reads no further than the arguments of its update
abbrev pub ReadArguments : List Change → Patterns → Type 0
ReadArguments changes patterns = AllZip (λ u lists. All (All (PatternReads (length u.params))) lists) changes patterns.updates
