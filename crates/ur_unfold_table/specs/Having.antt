-- Heads that depend on what may be there.
use Rattle.std.specs.Prelude.{List, [], Option, Some, None, Result}
use Rattle.ur_terms.specs.declared.term.Op.{Op}
use Rattle.ur_meaning.specs.declared.head.Head.TheVariants as head
use Rattle.ur_meaning.specs.declared.head.Opened.{Opened}
use Rattle.ur_meaning.specs.declared.halt.Halt.{Halt}
use Rattle.ur_unfold_pieces.specs.declared.piece.Piece.{Piece}
use Rattle.ur_unfold_pieces.specs.Told.{Told}
use Rattle.ur_unfold_table.specs.Opened.{IsOpened}

-- what is there gives the form; without it there is none
abbrev pub OpenedBy : {A : Type 0} → Option A → (A → Result (Opened Piece) Halt → Type 0) → Result (Opened Piece) Halt → Type 0
OpenedBy None go = IsOpened head.Nothing []
OpenedBy (Some y) go = go y

-- an operation, where what it needs is there
abbrev pub OpenedWith : {A : Type 0} → Option A → (A → Op) → List Told → Result (Opened Piece) Halt → Type 0
OpenedWith a op parts = OpenedBy a (λ y. IsOpened (head.Strict (op y)) parts)
