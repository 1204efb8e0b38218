-- Folds over all of some steps.
use Rattle.std.specs.Prelude.{◌≡◌, ℕ, List, [], ◌∷◌, length, map, Some, slice_get, Result, Ok, Err}
use Rattle.ur_tree.specs.declared.exp.Exp.{Exp}
use Rattle.ur_unfold_static.specs.declared.node.Step.{Step}
use Rattle.ur_meaning.specs.declared.head.Head.TheVariants as head
use Rattle.ur_meaning.specs.declared.head.Opened.{Opened}
use Rattle.ur_meaning.specs.declared.halt.Halt.{Halt}
use Rattle.ur_meaning.specs.declared.halt.Halt.TheVariants as halt
use Rattle.ur_unfold_pieces.specs.declared.piece.Piece.{Piece}
use Rattle.ur_unfold_pieces.specs.declared.opening.Opening.{Opening}
use Rattle.ur_unfold_pieces.specs.Told.{told, folding}

-- the same as the fold over all these steps, which have a number; or want of memory
abbrev pub FoldsOver : Opening → ℕ → Exp → Exp → List Step → Result (Opened Piece) Halt → Type 0
FoldsOver s n step start ss (Ok o) = (number : ℕ) × (slice_get s.folds number ≡ Some ss) × (o.head ≡ head.Same) × (map told o.parts ≡ folding n step start number (length ss) ∷ [])
FoldsOver s n step start ss (Err e) = e ≡ halt.Memory
