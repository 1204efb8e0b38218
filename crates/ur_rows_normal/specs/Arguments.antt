-- Constructors that take the place of free variables.
use Rattle.std.specs.Prelude.{ℕ, ◌&&◌, Bool, true, List, [], ◌∷◌, slice_index_or}
use Rattle.ur_rows.specs.declared.normal.Var.{Var}
use Rattle.ur_rows.specs.declared.normal.Var.TheVariants as var
use Rattle.ur_rows.specs.declared.normal.Normal.{Normal}
use Rattle.ur_rows.specs.IsNormal.{is_normal}
use Rattle.ur_rows_reduce.specs.Lifts.{Levels}

-- all in order, and without a `map` of the identity
abbrev pub are_normal : List Normal → Bool
are_normal [] = true
are_normal (n ∷ ns) = is_normal n && are_normal ns

-- the height of what stands for a variable; a variable that nothing stands for has one level
abbrev pub free_height : List ℕ → Var → ℕ
free_height hs (var.Free n) = slice_index_or hs n 1
free_height hs (var.Bound i) = 1

abbrev pub at_numbers : List ℕ → List ℕ → Levels
at_numbers types rows = record {
  types = λ d v. free_height types v;
  rows = λ d v. free_height rows v;
}
