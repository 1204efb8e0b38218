-- The pattern of a pair as it is read off the classes of its terms.
use Rattle.std.specs.Prelude.{ℕ, ◌+◌, Bool, not, ◌&&◌, ◌==◌, if◌then◌else◌, List, [], ◌∷◌, map, flat_map, find, Option, Some, None, option_map}
use Rattle.std.specs.List.{list_any, enumerate_from, AllZip}
use Rattle.ur_values.specs.declared.value.Value.{Value}
use Rattle.ur_values.specs.Order.{value_eq}
use Rattle.ur_sql.specs.declared.pattern.Pattern.{Pattern}
use Rattle.ur_sql.specs.declared.pattern.KeyAt.{KeyAt}
use Rattle.ur_sql.specs.declared.pattern.Guard.{Guard}
use Rattle.ur_sql.specs.declared.query.Query.{Query}
use Rattle.ur_sql.specs.declared.change.Change.{Change}
use Rattle.ur_invalidate.specs.declared.classes.Classes.{Classes}
use Rattle.ur_conditions.specs.Patterns.{key_by, guards_by, ArePatterns}

-- two different constants of one class
abbrev pub clash : Value × ℕ → Value × ℕ → Bool
clash c d = not (value_eq c.0 d.0) && (c.1 == d.1)

abbrev pub have_clash : List (Value × ℕ) → Bool
have_clash constants = list_any (λ c. list_any (clash c) constants) constants

abbrev pub have_equal_sides : List (ℕ × ℕ) → Bool
have_equal_sides = list_any (λ d. d.0 == d.1)

-- no two different constants share a class, no NULL and a SOME do, and no disequation's sides share one
abbrev pub are_consistent : Classes → Bool
are_consistent classes = not (have_clash classes.constants) && not classes.null_meets_some && not (have_equal_sides classes.disequations)

-- the numbers of the items that are this class, counted from n
abbrev pub members : ℕ → ℕ → List ℕ → List ℕ
members class n [] = []
members class n (a ∷ args) = if class == a then n ∷ members class (n + 1) args else members class (n + 1) args

-- the first constant of a class
abbrev pub constant_in : ℕ → List (Value × ℕ) → Option Value
constant_in class constants = option_map (λ c. c.0) (find (λ c. class == c.1) constants)

abbrev pub key_in : Classes → ℕ → KeyAt
key_in classes class = key_by (members class 0 classes.args) (constant_in class classes.constants)

abbrev pub guards_at : Classes → ℕ × ℕ → List Guard
guards_at classes arg = guards_by arg.0 (members arg.1 0 classes.args) (constant_in arg.1 classes.constants)

abbrev pub guards_in : Classes → List Guard
guards_in classes = flat_map (guards_at classes) (enumerate_from 0 classes.args)

abbrev pub pattern_from : ℕ → Classes → Option Pattern
pattern_from site classes =
    if are_consistent classes then Some (record { site = site; keys = map (key_in classes) classes.keys; guards = guards_in classes }) else None

-- the patterns of each query at a change
abbrev pub AreSitePatterns : List Query → Change → List (List Pattern) → Type 0
AreSitePatterns queries u lists = AllZip (λ site list. ArePatterns site.0 site.1 u list) (enumerate_from 0 queries) lists
