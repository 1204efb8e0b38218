-- How cache sites, updates and patterns are written. Sites, updates and antiquotes are counted from 1.
use Rattle.std.specs.Prelude.{ℕ, ◌+◌, ◌==◌, Bool, if◌then◌else◌, List, [], ◌∷◌, ◌++◌, codes, decimal, flat_map, length}
use Rattle.std.specs.List.{enumerate_from}
use Rattle.std.specs.Fmt.{signed_decimal}
use Rattle.ur_values.specs.declared.value.Value.{Value}
use Rattle.ur_values.specs.declared.value.Value.TheVariants as v
use Rattle.ur_sql.specs.declared.query.Query.{Query}
use Rattle.ur_sql.specs.declared.change.Change.{Change}
use Rattle.ur_sql.specs.declared.pattern.Pattern.{Pattern}
use Rattle.ur_sql.specs.declared.pattern.KeyAt.{KeyAt}
use Rattle.ur_sql.specs.declared.pattern.KeyAt.TheVariants as key
use Rattle.ur_sql.specs.declared.pattern.Guard.{Guard}
use Rattle.ur_sql.specs.declared.pattern.Guard.TheVariants as guard
use Rattle.ur_conditions.specs.declared.patterns.Patterns.{Patterns}

-- a quote within SQL's text stands twice
abbrev pub quoted : ℕ → List ℕ
quoted byte = if byte == 39 then 39 ∷ 39 ∷ [] else byte ∷ []

-- A constant as SQL writes it. Constants of statements are ints, bools, texts and NULL.
abbrev pub constant_text : Value → List ℕ
constant_text (v.Int n) = signed_decimal n
constant_text (v.Bool b) = if b then codes "TRUE" else codes "FALSE"
constant_text (v.Str text) = codes "'" ++ flat_map quoted text ++ codes "'"
constant_text v.Absent = codes "NULL"
constant_text _ = []

-- the argument at this place of an update
abbrev pub argument_text : ℕ → List ℕ
argument_text n = codes "x" ++ decimal (n + 1)

abbrev pub key_text : KeyAt → List ℕ
key_text (key.Arg n) = argument_text n
key_text (key.Is c) = constant_text c
key_text key.Any = codes "*"

abbrev pub guard_text : Guard → List ℕ
guard_text (guard.Args m n) = argument_text m ++ codes " = " ++ argument_text n
guard_text (guard.Is n c) = argument_text n ++ codes " = " ++ constant_text c

-- each further item with this in front
abbrev pub further : {A : Type 0} → List ℕ → (A → List ℕ) → List A → List ℕ
further between text = flat_map (λ x. between ++ text x)

-- the keys that are dropped; a site without keys has one entry at most
abbrev pub keys_text : List KeyAt → List ℕ
keys_text [] = codes "all"
keys_text (k ∷ ks) = key_text k ++ further (codes ", ") key_text ks

-- when they are dropped
abbrev pub guards_text : List Guard → List ℕ
guards_text [] = []
guards_text (g ∷ gs) = codes " if " ++ guard_text g ++ further (codes " and ") guard_text gs

-- the update and the site in front of a line
abbrev pub pair_text : ℕ → ℕ → List ℕ
pair_text update site = codes "update " ++ decimal (update + 1) ++ codes " site " ++ decimal (site + 1)

abbrev pub pattern_line : ℕ → ℕ → Pattern → List ℕ
pattern_line update site p = pair_text update site ++ codes " drops " ++ keys_text p.keys ++ guards_text p.guards ++ codes "\n"

-- a line for each pattern, or one that says that there is none
abbrev pub patterns_text : ℕ → ℕ → List Pattern → List ℕ
patterns_text update site [] = pair_text update site ++ codes " none\n"
patterns_text update site (p ∷ ps) = pattern_line update site p ++ flat_map (pattern_line update site) ps

abbrev pub site_line : ℕ × Query → List ℕ
site_line s = codes "site " ++ decimal (s.0 + 1) ++ codes " keys " ++ decimal (length s.1.params) ++ codes "\n"

abbrev pub update_line : ℕ × Change → List ℕ
update_line u = codes "update " ++ decimal (u.0 + 1) ++ codes " args " ++ decimal (length u.1.params) ++ codes "\n"

-- what an update drops of each site
abbrev pub update_text : ℕ × List (List Pattern) → List ℕ
update_text u = flat_map (λ s. patterns_text u.0 s.0 s.1) (enumerate_from 0 u.1)

-- the sites, the updates, and then for each update and each site its patterns
abbrev pub sites_text : List Query → List Change → Patterns → List ℕ
sites_text queries changes patterns =
    flat_map site_line (enumerate_from 0 queries) ++ flat_map update_line (enumerate_from 0 changes) ++ flat_map update_text (enumerate_from 0 patterns.updates)
