-- How many levels stand where a substitution has put something.
use Rattle.std.specs.Prelude.{ℕ, ◌+◌, ◌-◌, ◌≤◌, max, if◌then◌else◌}
use Rattle.ur_rows.specs.declared.normal.Var.{Var}
use Rattle.ur_rows.specs.declared.normal.NormalType.{NormalType}
use Rattle.ur_rows.specs.Put.{Putting, is_here}
use Rattle.ur_rows_reduce.specs.Height.{type_height, row_height}

-- the levels of what stands for each variable, or more
pub record Levels : Type 0 where
  pub types : ℕ → Var → ℕ
  pub rows : ℕ → Var → ℕ

-- what `map f` of a row of so many levels has more than f
abbrev pub over_map : ℕ → ℕ
over_map n = max (n - 1) 1

-- no more levels are put in place of a variable
pub record Within (l : Levels) (σ : Putting) : Type 0 where
  pub types : (d : ℕ) (v : Var) → type_height (σ.types d v) ≤ l.types d v
  pub rows : (d : ℕ) (v : Var) → row_height (σ.rows d v) ≤ l.rows d v
  pub maps : (d : ℕ) (v : Var) (f : NormalType) → row_height (σ.maps d v f) ≤ type_height f + over_map (l.rows d v)

-- a type or a row of so many levels in place of an `fn`'s variable
abbrev pub at_variable : ℕ → ℕ → Levels
at_variable t r = record {
  types = λ d v. if is_here d v then t else 1;
  rows = λ d v. if is_here d v then r else 1;
}
