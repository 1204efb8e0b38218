-- How far the terms of a pair are numbered.
use Rattle.std.specs.Prelude.{◌≡◌, ℕ, ◌<◌, Bool, true, All, List, [], ◌∷◌, ◌++◌, map, length, slice_index}
use Rattle.std.specs.List.{AllZip}
use Rattle.ur_values.specs.declared.value.Value.{Value}
use Rattle.ur_sql.specs.declared.term.SqlTerm.{SqlTerm}
use Rattle.ur_congruence.specs.Graph.{Graph}
use Rattle.ur_congruence.specs.Terms.{MeetsSome}
use Rattle.ur_conditions.specs.declared.pair.Pair.{Pair}
use Rattle.ur_conditions.specs.Disjuncts.{Equation}
use Rattle.ur_conditions.specs.Terms.{subterms}
use Rattle.ur_conditions.specs.Patterns.{is_null}
use Rattle.ur_conditions.specs.Pairs.{side_terms, key_terms, arg_terms, terms_of}
use Rattle.ur_invalidate.specs.declared.numbering.Numbering.{Numbering}
use Rattle.ur_invalidate.specs.declared.pair_numbers.PairNumbers.{PairNumbers}
use Rattle.ur_invalidate.specs.declared.classes.Classes.{Classes}
use Rattle.ur_invalidate.specs.Numbers.{HaveNumbers}
use Rattle.ur_invalidate.specs.Numbering.{NumberIn, Numbered, Keeps}

-- exactly these terms are numbered, and exactly these equations of them are in the closure
pub record Stands (equations : List Equation) (known : List SqlTerm) (numbering : Numbering) : Type 0 where
  pub numbered : Numbered known numbering
  pub equated : HaveNumbers numbering.leaves.keys numbering.closure.nodes equations numbering.closure.equations

-- the sides of an equation are numbered besides, and have these numbers
pub record AddsSides (old new : Numbering) (e : Equation) (numbers : ℕ × ℕ) : Type 0 where
  pub keeps : Keeps old new
  pub left : numbers.0 < length new.closure.nodes
  pub right : numbers.1 < length new.closure.nodes
  pub stands : (equations : List Equation) (known : List SqlTerm) → Stands equations known old
      → Stands equations (known ++ (subterms e.0 ++ subterms e.1)) new × NumberIn new e.0 numbers.0 × NumberIn new e.1 numbers.1

-- an equation is in the closure besides
abbrev pub AddsEquation : Numbering → Numbering → Equation → Type 0
AddsEquation old new e =
    (equations : List Equation) (known : List SqlTerm) → Stands equations known old → Stands (equations ++ e ∷ []) (known ++ (subterms e.0 ++ subterms e.1)) new

-- the sides of these equations have these numbers
abbrev pub SidesHave : Numbering → List Equation → List (ℕ × ℕ) → Type 0
SidesHave numbering = HaveNumbers numbering.leaves.keys numbering.closure.nodes

-- the sides of these equations are numbered besides, and have these numbers
pub record AddsAllSides (old new : Numbering) (es : List Equation) (numbers : List (ℕ × ℕ)) : Type 0 where
  pub keeps : Keeps old new
  pub stands : (equations : List Equation) (known : List SqlTerm) → Stands equations known old
      → Stands equations (known ++ side_terms es) new × SidesHave new es numbers

-- these terms have these numbers
abbrev pub TermsHave : Numbering → List SqlTerm → List ℕ → Type 0
TermsHave numbering = AllZip (NumberIn numbering)

-- these terms, which have no parts, are numbered besides, and have these numbers
pub record AddsPlain (old new : Numbering) (terms : List SqlTerm) (numbers : List ℕ) : Type 0 where
  pub keeps : Keeps old new
  pub stands : (equations : List Equation) (known : List SqlTerm) → Stands equations known old
      → Stands equations (known ++ terms) new × TermsHave new terms numbers

-- the terms of a pair are numbered, and these are the numbers of its key positions, arguments and sides of disequations
pub record AreNumbersOf (p : Pair) (numbers : PairNumbers) : Type 0 where
  pub stands : Stands p.equations (terms_of p) numbers.numbering
  pub keys : TermsHave numbers.numbering (key_terms p.keys) numbers.keys
  pub args : TermsHave numbers.numbering (arg_terms p.args) numbers.args
  pub sides : SidesHave numbers.numbering p.disequations numbers.sides

-- the classes of numbers
abbrev pub classes_at : List ℕ → List ℕ → List ℕ
classes_at classes = map (λ n. slice_index classes n)

abbrev pub constants_at : List ℕ → List (Value × ℕ) → List (Value × ℕ)
constants_at classes = map (λ c. (c.0, slice_index classes c.1))

abbrev pub sides_at : List ℕ → List (ℕ × ℕ) → List (ℕ × ℕ)
sides_at classes = map (λ s. (slice_index classes s.0, slice_index classes s.1))

-- the constant is no NULL, or no SOME shares its class
abbrev pub IsApart : Graph → Value × ℕ → Type 0
IsApart g c = is_null c.0 ≡ true → MeetsSome g c.1 → ⊥

abbrev pub AreApart : Numbering → Type 0
AreApart numbering = All (IsApart numbering.closure) numbering.constants

-- what is read, where this says whether a NULL and a SOME share a class
abbrev pub read_at : List ℕ → PairNumbers → Bool → Classes
read_at classes numbers meet = record {
  keys = classes_at classes numbers.keys;
  args = classes_at classes numbers.args;
  constants = constants_at classes numbers.numbering.constants;
  disequations = sides_at classes numbers.sides;
  null_meets_some = meet;
}

-- all of these numbers have classes
abbrev pub AreWithin : List ℕ → PairNumbers → Type 0
AreWithin classes numbers =
    All (λ n. n < length classes) numbers.keys × All (λ n. n < length classes) numbers.args
    × All (λ c. c.1 < length classes) numbers.numbering.constants
    × All (λ s. (s.0 < length classes) × (s.1 < length classes)) numbers.sides
