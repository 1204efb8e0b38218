-- Expressions as they stand in a list of a tree.
use Rattle.std.specs.Prelude.{List, [], ◌∷◌}
use Rattle.ur_base.specs.Shape.{Shape, count}
use Rattle.ur_syntax.specs.declared.exp.Exp.{Exp}
use Rattle.ur_syntax.specs.declared.exp.ExpForm.{Row_of-Exp, end_of-Exp, more_of-Exp}

abbrev pub exp_row : List Exp → (s : Shape) × Row_of-Exp (count s)
exp_row [] = ([], end_of-Exp)
exp_row (x ∷ xs) = (tt ∷ (exp_row xs).0, more_of-Exp x.span x.form (exp_row xs).1)
