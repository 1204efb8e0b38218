-- The lines of a project file.
use Rattle.std.specs.Prelude.{ℕ, suc, ◌-◌, Bool, true, false, ◌||◌, ◌==◌, if◌then◌else◌, List, [], ◌∷◌, length, map, take, drop}
use Rattle.std.specs.List.{prefix_len, suffix_len}
use Rattle.std.specs.Str.Lines.{lines}

-- a space or a tab
abbrev pub is_space : ℕ → Bool
is_space b = b == 32 || b == 9

-- nothing stands in the line
abbrev pub is_empty : List ℕ → Bool
is_empty [] = true
is_empty (b ∷ line) = false

-- the list without the elements at its begin that pass the test
abbrev pub without_first : {A : Type 0} → (A → Bool) → List A → List A
without_first test xs = drop (prefix_len test xs) xs

-- the list without the elements at its end that pass the test
abbrev pub without_last : {A : Type 0} → (A → Bool) → List A → List A
without_last test xs = take (length xs - suffix_len test xs) xs

-- a line without the spaces and tabs at its ends
abbrev pub trimmed : List ℕ → List ℕ
trimmed line = without_last is_space (without_first is_space line)

-- how many lines end in the bytes
abbrev pub line_ends : List ℕ → ℕ
line_ends [] = 0
line_ends (b ∷ bytes) = if b == 10 then suc (line_ends bytes) else line_ends bytes

-- The lines of a file, each without the spaces and tabs at its ends, up to the last that is not empty then. A line ends
-- at a LF, and a CR before that is no part of it.
abbrev pub project_lines : List ℕ → List (List ℕ)
project_lines bytes = without_last is_empty (map trimmed (lines bytes))
