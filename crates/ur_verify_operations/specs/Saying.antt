-- What the two texts of a misfit are.
use Rattle.std.specs.Prelude.{◌≡◌, ◌≢◌, ℕ, ◌≤◌, if◌then◌else◌, List, codes, bytes_eq, take, length, min, slice_get, Some}
use Rattle.ur_values.specs.declared.types.ValueType.{ValueType}
use Rattle.ur_values.specs.Texts.{Names, type_text}

-- what was found, and what is wanted
abbrev pub TwoTexts : Type 0
TwoTexts = List ℕ × List ℕ

-- in place of two texts that are the same
abbrev pub same_texts : TwoTexts
same_texts = (codes "a type", codes "another type")

-- two texts, or where they are the same two words in their place
abbrev pub told_apart : List ℕ → List ℕ → TwoTexts
told_apart left right = if bytes_eq left right then same_texts else (left, right)

-- a type was found, and another one is wanted
abbrev pub two_types : Names → ValueType → ValueType → TwoTexts
two_types names found wanted = told_apart (type_text names found) (type_text names wanted)

-- a type was found, and what the words say is wanted
abbrev pub one_type : Names → ValueType → List ℕ → TwoTexts
one_type names found words = told_apart (type_text names found) words

-- nothing was found, and what the words say is wanted
abbrev pub nothing : List ℕ → TwoTexts
nothing words = told_apart (codes "no type") words

-- the first two types in one place that differ, or that as far as both go there are none and one has more
pub data FirstUnlike (names : Names) (found wanted : List ValueType) : TwoTexts → Type 0 where
  differ : (place : ℕ) (a b : ValueType) → take place found ≡ take place wanted → slice_get found place ≡ Some a → slice_get wanted place ≡ Some b → a ≢ b
      → FirstUnlike names found wanted (two_types names a b)
  counts : (n : ℕ) → min (length found) (length wanted) ≤ n → take n found ≡ take n wanted → FirstUnlike names found wanted (nothing (codes "as many arguments as parameters"))

-- other types were found than are wanted, as the first place tells where this is seen
abbrev pub OtherTypes : Names → List ValueType → List ValueType → TwoTexts → Type 0
OtherTypes names found wanted said = (found ≢ wanted) × FirstUnlike names found wanted said

-- what was found: a type as it is written, or one of two words
pub data IsFound : List ℕ → Type 0 where
  a_type : (names : Names) (t : ValueType) → IsFound (type_text names t)
  no_type : IsFound (codes "no type")
  same_text : IsFound (codes "a type")
