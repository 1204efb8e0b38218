-- What breaks the rules of the patterns of a `case`.
use Rattle.std.specs.Fmt.{signed_decimal}
use Rattle.ur_syntax.specs.declared.exp.Argument.{Argument}
use Rattle.ur_syntax.specs.declared.exp.PatForm.{PatForm}
use Rattle.ur_syntax.specs.declared.exp.PatForm.TheVariants as pat
use Rattle.std.specs.Prelude.{◌≡◌, ◌||◌, ℕ, true, false, if◌then◌else◌, IsFalse, List, [], ◌∷◌, ◌==◌, codes, length, map, Some, None, Contains}
use Rattle.std.specs.List.{list_any}
use Rattle.ur_syntax.specs.Names.{own, member as of_module, name_text}
use Rattle.ur_syntax.specs.declared.con.ConName.{ConName}
use Rattle.ur_terms.specs.declared.term.Pattern.{Pattern}
use Rattle.ur_terms.specs.declared.term.Pattern.TheVariants as pattern
use Rattle.ur_rows.specs.declared.normal.NormalType.{NormalType}
use Rattle.ur_tree.specs.Patterns.{bound_by, same_pattern, constructors_of, has_all, last_is_any}
use Rattle.ur_tree.specs.Text.{type_text}
use Rattle.ur_typed_rules.specs.Names.{Local, declared}
use Rattle.ur_typed_rules.specs.Tests.{local_name, are_distinct}
use Rattle.ur_typed_rules.specs.Faults.{Fault, unknown, twice, mismatch}
use Rattle.ur_typed_rules.specs.Repeats.{IsTwiceIn}
use Rattle.ur_typed_rules.specs.Rules.{pattern_of}
use Rattle.ur_typed_rules.specs.Scopes.{World}

-- the name of the constructor with that number
abbrev pub constructor_name : ℕ → List (ConName × ℕ) → List ℕ
constructor_name n [] = []
constructor_name n (c ∷ cs) = if n == c.1 then c.0.name else constructor_name n cs

-- how a pattern is called
abbrev pub called : World → Pattern → List ℕ
called w pattern.Any = codes "_"
called w (pattern.Int n) = signed_decimal n
called w (pattern.Str s) = s
called w (pattern.Bool true) = codes "True"
called w (pattern.Bool false) = codes "False"
called w pattern.Absent = codes "None"
called w pattern.Present = codes "Some"
called w pattern.Empty = codes "[]"
called w pattern.Cons = codes "::"
called w (pattern.Tagged n) = constructor_name n w.globals.constructors

-- the constructor of a datatype that a pattern names
pub data NamesConstructor : PatForm → ConName → List ℕ → Type 0 where
  bare_constructor : {x : List ℕ} {a : Argument} → NamesConstructor (pat.Constructor x a) (own x) x
  member_constructor : {h x : List ℕ} {a : Argument} → NamesConstructor (pat.Member h x a) (of_module h x) (name_text (Some h) x)

abbrev pub of_another : List (List ℕ) → NormalType → Fault
of_another names u = mismatch (codes "a pattern of another type") (type_text names u)

-- A pattern breaks its rule, for a value of this type. A pattern that gives a constructor of a datatype a variable where it has no
-- argument, or none where it has one, is one of another type.
pub data BreaksPat (names : List (List ℕ)) (w : World) (u : NormalType) (p : PatForm) : Fault → Type 0 where
  of_other_type : {q : List Local × Pattern} → pattern_of w.globals p ≡ Some q → bound_by w.declared u q.1 ≡ None → BreaksPat names w u p (of_another names u)
  of_other_count : {q : List Local × Pattern} {bound : List NormalType} → pattern_of w.globals p ≡ Some q → bound_by w.declared u q.1 ≡ Some bound → (length q.0 == length bound) ≡ false →
      BreaksPat names w u p (of_another names u)
  unknown_pat : {c : ConName} {text : List ℕ} → NamesConstructor p c text → declared w.globals c w.globals.constructors ≡ None → BreaksPat names w u p (unknown text)
  binds_twice : {q : List Local × Pattern} {name : List ℕ} → pattern_of w.globals p ≡ Some q → IsTwiceIn name (map local_name q.0) → are_distinct q.0 ≡ false → BreaksPat names w u p (twice name)

-- a constructor of the type that is not among the patterns, or any value where none of its constructors can be all, or where there are none
-- of either
pub data IsMissing (w : World) (u : NormalType) (qs : List Pattern) : List ℕ → Type 0 where
  constructor : {cs : List Pattern} {c : Pattern} → constructors_of w.declared u ≡ Some cs → Contains cs c → IsFalse (list_any (same_pattern c) qs) → IsMissing w u qs (called w c)
  any : constructors_of w.declared u ≡ None → IsMissing w u qs (codes "_")
  nothing : constructors_of w.declared u ≡ Some [] → qs ≡ [] → IsMissing w u qs (codes "_")

-- a pattern that a later one repeats
pub data IsRepeated : List Pattern → Pattern → Type 0 where
  repeated_here : {p q : Pattern} {qs : List Pattern} → Contains qs q → same_pattern p q ≡ true → IsRepeated (p ∷ qs) p
  repeated_later : {p q : Pattern} {qs : List Pattern} → IsRepeated qs q → IsRepeated (p ∷ qs) q

-- the patterns of a `case` do not cover the type
pub data BreaksCover (w : World) (u : NormalType) (ps : List Pattern) : Fault → Type 0 where
  comes_twice : {q : Pattern} → IsRepeated ps q → BreaksCover w u ps (twice (called w q))
  is_missing : {name : List ℕ} → (last_is_any ps || has_all (constructors_of w.declared u) ps) ≡ false → IsMissing w u ps name → BreaksCover w u ps (mismatch name (codes "a branch"))
