-- Bytes that are written in runs of those that stand as they are.
use Rattle.std.specs.Prelude.{◌≡◌, ℕ, ◌+◌, ◌≤◌, List, [], ◌∷◌, ◌++◌, Option, Some, None, length, drop, take, slice_index_or}
use Rattle.std.specs.List.{flat_map}

-- the piece that stands for a byte, where the byte does not stand as it is
abbrev pub IsPiece : (ℕ → List ℕ) → ℕ → Option (List ℕ) → Type 0
IsPiece piece_of b None = piece_of b ≡ b ∷ []
IsPiece piece_of b (Some piece) = piece ≡ piece_of b

-- what stands for the bytes up to this place is written, but for the run that begins at another one
pub record InRuns (piece_of : ℕ → List ℕ) (start : List ℕ) (text : List ℕ) (from at : ℕ) (out : List ℕ) : Type 0 where
  pub begins : from ≤ at
  pub within : from ≤ length text
  pub shown : out ++ drop from (take at text) ≡ start ++ flat_map piece_of (take at text)

-- a byte more is written in runs
abbrev pub LeadsOn : List ℕ → List ℕ → List ℕ → ℕ → ℕ → ℕ → Option (List ℕ) → Type 0
LeadsOn before after text from next at piece =
    (piece_of : ℕ → List ℕ) (start : List ℕ) → IsPiece piece_of (slice_index_or text at 0) piece → InRuns piece_of start text from at before
    → InRuns piece_of start text next (at + 1) after
