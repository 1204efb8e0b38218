-- The operations of operators. `&&` and `||` have none.
use Rattle.std.specs.Prelude.{ℕ, true, false, List, [], ◌∷◌, Option, Some, None, Result}
use Rattle.ur_terms.specs.declared.term.Op.{Op}
use Rattle.ur_terms.specs.declared.term.Op.TheVariants as op
use Rattle.ur_tree.specs.declared.exp.Unary.{Unary}
use Rattle.ur_tree.specs.declared.exp.Unary.TheVariants as unary
use Rattle.ur_tree.specs.declared.exp.Binary.{Binary}
use Rattle.ur_tree.specs.declared.exp.Binary.TheVariants as binary
use Rattle.ur_tree.specs.declared.exp.Exp.{Exp}
use Rattle.ur_meaning.specs.declared.head.Head.{Head}
use Rattle.ur_meaning.specs.declared.head.Head.TheVariants as head
use Rattle.ur_meaning.specs.declared.head.Opened.{Opened}
use Rattle.ur_meaning.specs.declared.halt.Halt.{Halt}
use Rattle.ur_unfold_pieces.specs.declared.piece.Piece.{Piece}
use Rattle.ur_unfold_pieces.specs.Told.{Told, exp, bool}
use Rattle.ur_unfold_table.specs.Opened.{IsOpened}

-- `return` has none
abbrev pub unary_op : Unary → Option Op
unary_op unary.Neg = Some op.Neg
unary_op unary.Not = Some op.Not
unary_op unary.Show = Some op.Show
unary_op unary.Present = Some op.Present
unary_op unary.Return = None

abbrev pub binary_op : Binary → Option Op
binary_op binary.Add = Some op.Add
binary_op binary.Sub = Some op.Sub
binary_op binary.Mul = Some op.Mul
binary_op binary.Div = Some op.Div
binary_op binary.Rem = Some op.Rem
binary_op binary.Append = Some op.Append
binary_op binary.Equal = Some op.Equal
binary_op binary.Unequal = Some op.Unequal
binary_op binary.Less = Some op.Less
binary_op binary.LessEqual = Some op.LessEqual
binary_op binary.Greater = Some op.Greater
binary_op binary.GreaterEqual = Some op.GreaterEqual
binary_op binary.Cons = Some op.Cons
binary_op binary.Join = Some op.Join
binary_op binary.And = None
binary_op binary.Or = None

-- the operation where there is one, and else the other head
abbrev pub Operates : Option Op → Head → List Told → Result (Opened Piece) Halt → Type 0
Operates None h parts = IsOpened h parts
Operates (Some o) h parts = IsOpened (head.Strict o) parts

abbrev pub two_told : ℕ → Exp → Exp → List Told
two_told n a b = exp n a ∷ exp n b ∷ []

-- `&&` and `||` leave the right side where the left one decides
abbrev pub choice_told : Binary → ℕ → Exp → Exp → List Told
choice_told binary.Or n a b = exp n a ∷ bool n true ∷ exp n b ∷ []
choice_told o n a b = exp n a ∷ exp n b ∷ bool n false ∷ []

abbrev pub IsOperation : Option Op → Binary → ℕ → Exp → Exp → Result (Opened Piece) Halt → Type 0
IsOperation None o n a b = IsOpened head.Choice (choice_told o n a b)
IsOperation (Some p) o n a b = IsOpened (head.Strict p) (two_told n a b)

abbrev pub IsBinary : Binary → ℕ → Exp → Exp → Result (Opened Piece) Halt → Type 0
IsBinary o = IsOperation (binary_op o) o
