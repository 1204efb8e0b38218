-- A head with parts that are told.
use Rattle.std.specs.Prelude.{◌≡◌, List, map, Result, Ok, Err}
use Rattle.ur_meaning.specs.declared.head.Head.{Head}
use Rattle.ur_meaning.specs.declared.head.Opened.{Opened}
use Rattle.ur_meaning.specs.declared.halt.Halt.{Halt}
use Rattle.ur_meaning.specs.declared.halt.Halt.TheVariants as halt
use Rattle.ur_unfold_pieces.specs.declared.piece.Piece.{Piece}
use Rattle.ur_unfold_pieces.specs.Told.{Told, told}

-- this head with these parts, or want of memory
abbrev pub IsOpened : Head → List Told → Result (Opened Piece) Halt → Type 0
IsOpened h parts (Ok o) = (o.head ≡ h) × (map told o.parts ≡ parts)
IsOpened h parts (Err e) = e ≡ halt.Memory
