-- The patterns of a `case`.
use Rattle.std.specs.Prelude.{ℕ, ◌+◌, ◌==◌, ◌||◌, ◌&&◌, Bool, true, false, IsTrue, if◌then◌else◌, List, [], ◌∷◌, Option, Some, None, option_and_then, option_to_list, slice_get, bytes_eq}
use Rattle.std.specs.Ordering.{int_eq}
use Rattle.std.specs.List.{IsDistinct, list_any, list_all}
use Rattle.ur_terms.specs.declared.term.Pattern.{Pattern}
use Rattle.ur_terms.specs.declared.term.Pattern.TheVariants as pattern
use Rattle.ur_rows.specs.declared.normal.NormalType.{NormalType, end_of-NormalType as alone, more_of-NormalType as its}
use Rattle.ur_rows.specs.declared.normal.NormalType.TheVariants as ty
use Rattle.ur_rows.specs.Types.{list_of}
use Rattle.ur_tree.specs.Heads.{Declared}

abbrev pub same_bool : Bool → Bool → Bool
same_bool true b = b
same_bool false true = false
same_bool false false = true

abbrev pub same_pattern : Pattern → Pattern → Bool
same_pattern pattern.Any pattern.Any = true
same_pattern (pattern.Int m) (pattern.Int n) = int_eq m n
same_pattern (pattern.Str s) (pattern.Str t) = bytes_eq s t
same_pattern (pattern.Bool a) (pattern.Bool b) = same_bool a b
same_pattern pattern.Absent pattern.Absent = true
same_pattern pattern.Present pattern.Present = true
same_pattern pattern.Empty pattern.Empty = true
same_pattern pattern.Cons pattern.Cons = true
same_pattern (pattern.Tagged c) (pattern.Tagged e) = c == e
same_pattern _ _ = false

abbrev pub none_of : {A : Type 0} → Option (List A)
none_of = Some []

abbrev pub present_of : NormalType → Option (List NormalType)
present_of (ty.Opt' _ (its t alone)) = Some (t ∷ [])
present_of _ = None

abbrev pub absent_of : NormalType → Option (List NormalType)
absent_of (ty.Opt' _ t) = none_of
absent_of _ = None

abbrev pub cons_of : NormalType → Option (List NormalType)
cons_of (ty.Many' _ (its t alone)) = Some (t ∷ list_of t ∷ [])
cons_of _ = None

abbrev pub empty_of : NormalType → Option (List NormalType)
empty_of (ty.Many' _ t) = none_of
empty_of _ = None

abbrev pub int_of : NormalType → Option (List NormalType)
int_of ty.Int = none_of
int_of _ = None

abbrev pub string_of : NormalType → Option (List NormalType)
string_of ty.Str = none_of
string_of _ = None

abbrev pub bool_of : NormalType → Option (List NormalType)
bool_of ty.Bool = none_of
bool_of _ = None

abbrev pub tagged_of : NormalType → ℕ × Option NormalType → Option (List NormalType)
tagged_of (ty.Datatype d) v = if d == v.0 then Some (option_to_list v.1) else None
tagged_of _ v = None

-- the types of what a pattern binds where it stands for values of a type; none where it does not
abbrev pub bound_by : Declared → NormalType → Pattern → Option (List NormalType)
bound_by d t pattern.Any = Some (t ∷ [])
bound_by d t (pattern.Int n) = int_of t
bound_by d t (pattern.Str s) = string_of t
bound_by d t (pattern.Bool b) = bool_of t
bound_by d t pattern.Absent = absent_of t
bound_by d t pattern.Present = present_of t
bound_by d t pattern.Empty = empty_of t
bound_by d t pattern.Cons = cons_of t
bound_by d t (pattern.Tagged c) = option_and_then (tagged_of t) (slice_get d.variants c)

-- the constructors of a datatype, from a number on
abbrev pub tags_from : ℕ → ℕ → List (ℕ × Option NormalType) → List Pattern
tags_from d n [] = []
tags_from d n (v ∷ vs) = if v.0 == d then pattern.Tagged n ∷ tags_from d (n + 1) vs else tags_from d (n + 1) vs

-- the constructors of a type, where a `case` can have all of them
abbrev pub constructors_of : Declared → NormalType → Option (List Pattern)
constructors_of d ty.Bool = Some (pattern.Bool true ∷ pattern.Bool false ∷ [])
constructors_of d (ty.Opt' _ t) = Some (pattern.Absent ∷ pattern.Present ∷ [])
constructors_of d (ty.Many' _ t) = Some (pattern.Empty ∷ pattern.Cons ∷ [])
constructors_of d (ty.Datatype e) = Some (tags_from e 0 d.variants)
constructors_of d _ = None

abbrev pub last_is_any : List Pattern → Bool
last_is_any [] = false
last_is_any (p ∷ []) = same_pattern p pattern.Any
last_is_any (p ∷ ps) = last_is_any ps

abbrev pub are_some : List Pattern → Bool
are_some [] = false
are_some (p ∷ ps) = true

-- each of the constructors has a branch, and there is one
abbrev pub has_all : Option (List Pattern) → List Pattern → Bool
has_all None ps = false
has_all (Some cs) ps = are_some ps && list_all (λ c. list_any (same_pattern c) ps) cs

-- No pattern comes twice; each constructor of the type is there, or the last pattern is `Any`.
pub record Covers (d : Declared) (t : NormalType) (ps : List Pattern) : Type 0 where
  pub once : IsDistinct same_pattern ps
  pub whole : IsTrue (last_is_any ps || has_all (constructors_of d t) ps)
