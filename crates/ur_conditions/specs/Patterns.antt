-- The patterns of a site and an update.
use Rattle.std.specs.Prelude.{◌≡◌, ℕ, Bool, true, false, not, ◌&&◌, ◌==◌, nat_lt, if◌then◌else◌, MatchBool, List, [], ◌∷◌, ◌++◌, map, filter, flat_map, filter_map, find, length, Option, Some, None}
use Rattle.std.specs.List.{list_any, range_with_len, AllZip, enumerate_from}
use Rattle.std.specs.Cmp.Lexicographic.{pointwise}
use Rattle.ur_values.specs.declared.value.Value.{Value}
use Rattle.ur_values.specs.declared.value.Value.TheVariants as v
use Rattle.ur_values.specs.Order.{value_eq}
use Rattle.ur_sql.specs.declared.term.SqlTerm.{SqlTerm, more_of-SqlTerm, end_of-SqlTerm}
use Rattle.ur_sql.specs.declared.term.SqlTerm.TheVariants as t
use Rattle.ur_sql.specs.declared.query.Query.{Query}
use Rattle.ur_sql.specs.declared.change.Change.{Change}
use Rattle.ur_sql.specs.declared.pattern.Pattern.{Pattern}
use Rattle.ur_sql.specs.declared.pattern.KeyAt.{KeyAt}
use Rattle.ur_sql.specs.declared.pattern.KeyAt.TheVariants as key
use Rattle.ur_sql.specs.declared.pattern.Guard.{Guard}
use Rattle.ur_sql.specs.declared.pattern.Guard.TheVariants as guard
use Rattle.ur_sql.specs.Answer.{first_ones}
use Rattle.ur_conditions.specs.declared.patterns.Patterns.{Patterns}
use Rattle.ur_conditions.specs.Terms.{constant_of}
use Rattle.ur_conditions.specs.declared.pair.Pair.{Pair}
use Rattle.ur_conditions.specs.Pairs.{pairs_of, terms_of, TellsClasses}

-- ---- what is read off a pair, by a test of which terms share a class

abbrev pub Test : Type 0
Test = SqlTerm → SqlTerm → Bool

abbrev pub constants_of : Pair → List Value
constants_of p = filter_map constant_of (terms_of p)

-- SOME of a term
abbrev pub is_some : SqlTerm → Bool
is_some (t.Present' _ (more_of-SqlTerm a end_of-SqlTerm)) = true
is_some _ = false

abbrev pub somes_of : Pair → List SqlTerm
somes_of p = filter is_some (terms_of p)

abbrev pub is_null : Value → Bool
is_null v.Absent = true
is_null _ = false

-- no two different constants share a class, no NULL and a SOME do, and no disequation's sides share one
abbrev pub is_consistent : Test → Pair → Bool
is_consistent same p =
    not (list_any (λ c. list_any (λ d. not (value_eq c d) && same (t.Constant c) (t.Constant d)) (constants_of p)) (constants_of p))
    && not (list_any (λ c. is_null c && list_any (λ s. same (t.Constant c) s) (somes_of p)) (constants_of p))
    && not (list_any (λ d. same d.0 d.1) p.disequations)

-- the arguments in the term's class, the least first
abbrev pub args_in_class : Test → Pair → SqlTerm → List ℕ
args_in_class same p a = filter (λ n. same a (t.Arg n)) (range_with_len 0 p.args)

abbrev pub constant_in_class : Test → Pair → SqlTerm → Option Value
constant_in_class same p a = find (λ c. same a (t.Constant c)) (constants_of p)

abbrev pub key_by : List ℕ → Option Value → KeyAt
key_by (n ∷ ns) constant = key.Arg n
key_by [] (Some c) = key.Is c
key_by [] None = key.Any

-- the least argument in the position's class, or else the constant there
abbrev pub key_at : Test → Pair → ℕ → KeyAt
key_at same p k = key_by (args_in_class same p (t.Key k)) (constant_in_class same p (t.Key k))

abbrev pub constant_guard : ℕ → Option Value → List Guard
constant_guard n None = []
constant_guard n (Some c) = guard.Is n c ∷ []

-- the guards of a class, where the argument is its least: it equals each other argument, and then the constant
abbrev pub guards_by : ℕ → List ℕ → Option Value → List Guard
guards_by n [] constant = []
guards_by n (m ∷ ms) constant = if n == m then map (guard.Args n) ms ++ constant_guard n constant else []

abbrev pub guards_of : Test → Pair → List Guard
guards_of same p =
    flat_map (λ n. guards_by n (args_in_class same p (t.Arg n)) (constant_in_class same p (t.Arg n))) (range_with_len 0 p.args)

-- the pattern of a pair, if it is consistent
abbrev pub pattern_by : Test → ℕ → Pair → Option Pattern
pattern_by same site p =
    if is_consistent same p then Some (record { site = site; keys = map (key_at same p) (range_with_len 0 p.keys); guards = guards_of same p }) else None

pub record IsPatternOf (site : ℕ) (p : Pair) (pattern : Option Pattern) : Type 0 where
  pub same : Test
  pub tells : TellsClasses p same
  pub read_off : pattern ≡ pattern_by same site p

-- ---- equal patterns

abbrev pub key_eq : KeyAt → KeyAt → Bool
key_eq (key.Arg m) (key.Arg n) = m == n
key_eq (key.Is c) (key.Is d) = value_eq c d
key_eq key.Any key.Any = true
key_eq _ _ = false

abbrev pub guard_eq : Guard → Guard → Bool
guard_eq (guard.Args m n) (guard.Args k l) = (m == k) && (n == l)
guard_eq (guard.Is m c) (guard.Is n d) = (m == n) && value_eq c d
guard_eq _ _ = false

abbrev pub pattern_eq : Pattern → Pattern → Bool
pattern_eq a b = (a.site == b.site) && pointwise key_eq a.keys b.keys && pointwise guard_eq a.guards b.guards

-- ---- the list

abbrev pub most_pairs : ℕ
most_pairs = 64

-- the pattern that every key of the site matches
abbrev pub any_key : ℕ → Query → Pattern
any_key site q = record { site = site; keys = map (λ k. key.Any) q.params; guards = [] }

-- the patterns of the pairs in order, equal ones once
pub record AreRead (site : ℕ) (pairs : List Pair) (patterns : List Pattern) : Type 0 where
  pub each : List (Option Pattern)
  pub of_pairs : AllZip (IsPatternOf site) pairs each
  pub once : patterns ≡ first_ones pattern_eq (filter_map (λ p. p) each)

-- the patterns of an update and a site; over 64 pairs stand for any key
abbrev pub ArePatterns : ℕ → Query → Change → List Pattern → Type 0
ArePatterns site q u patterns =
    MatchBool (nat_lt most_pairs (length (pairs_of q u))) (patterns ≡ any_key site q ∷ []) (AreRead site (pairs_of q u) patterns)

-- the patterns of each update and each site
abbrev pub AreAllPatterns : List Query → List Change → Patterns → Type 0
AreAllPatterns queries changes patterns =
    AllZip (λ u lists. AllZip (λ site list. ArePatterns site.0 site.1 u list) (enumerate_from 0 queries) lists) changes patterns.updates
