-- The bytes and words of which the names of modules are made.
use Rattle.std.specs.Prelude.{ℕ, Bool, true, false, not, ◌&&◌, ◌||◌, ◌==◌, nat_le, List, [], ◌∷◌, bytes_eq}
use Rattle.std.specs.List.{list_any, list_all}
use Rattle.std.specs.Char.{is_ascii_alphanumeric}

abbrev pub is_one_of : List (List ℕ) → List ℕ → Bool
is_one_of words word = list_any (bytes_eq word) words

-- a letter, a digit or `_`
abbrev pub is_name_byte : ℕ → Bool
is_name_byte b = is_ascii_alphanumeric b || b == 95

abbrev pub is_small : ℕ → Bool
is_small b = nat_le 97 b && nat_le b 122

-- a small letter, then letters, digits and `_`
abbrev pub is_module_name : List ℕ → Bool
is_module_name [] = false
is_module_name (b ∷ bytes) = is_small b && list_all is_name_byte (b ∷ bytes)

-- no name stands twice
abbrev pub are_distinct : List (List ℕ) → Bool
are_distinct [] = true
are_distinct (name ∷ names) = not (is_one_of names name) && are_distinct names
