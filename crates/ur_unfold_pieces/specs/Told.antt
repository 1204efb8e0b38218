-- Pieces hold references, so that they are told by what they refer to.
use Rattle.std.specs.Prelude.{ℕ, Bool, List, [], ◌∷◌, map, Option, Some, None}
use Rattle.ur_tree.specs.declared.exp.Exp.{Exp}
use Rattle.ur_tree.specs.declared.exp.Markup.{Markup}
use Rattle.ur_unfold_pieces.specs.declared.piece.Piece.{Piece}
use Rattle.ur_unfold_pieces.specs.declared.piece.Piece.TheVariants as piece

-- what a piece says, scopes and steps by number
pub data Told : Type 0 where
  exp : ℕ → Exp → Told
  part : ℕ → Markup → Told
  bool : ℕ → Bool → Told
  closed : ℕ → Told
  folding : (scope : ℕ) → (step start : Exp) → (steps left : ℕ) → Told
  asking : (scope query : ℕ) → List Exp → Told

abbrev pub told : Piece → Told
told (piece.Exp n e) = exp n e.now
told (piece.Part n m) = part n m.now
told (piece.Bool n b) = bool n b
told (piece.Closed j) = closed j
told (piece.Folding n step start steps left) = folding n step.now start.now steps left
told (piece.Asking n q args) = asking n q args.now

abbrev pub exps_told : ℕ → List Exp → List Told
exps_told n = map (exp n)

abbrev pub parts_told : ℕ → List Markup → List Told
parts_told n = map (part n)

abbrev pub held_told : ℕ → Option Exp → List Told
held_told n None = []
held_told n (Some e) = exp n e ∷ []
