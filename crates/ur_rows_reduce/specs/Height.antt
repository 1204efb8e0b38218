-- The height of a normal form: the number of types, parts and functions that stand within one another.
use Rattle.std.specs.Prelude.{ℕ, ◌+◌, max, List, [], ◌∷◌}
use Rattle.ur_rows.specs.declared.normal.NormalType.{NormalType}
use Rattle.ur_rows.specs.declared.normal.NormalType.TheVariants as ty
use Rattle.ur_rows.specs.declared.normal.NormalType.TheBlock.{end_of-NormalType as alone, more_of-NormalType as its, Row_of-Part, end_of-Part as end, more_of-Part as more}
use Rattle.ur_rows.specs.declared.normal.Part.{Part}
use Rattle.ur_rows.specs.declared.normal.Part.TheVariants as part
use Rattle.ur_rows.specs.declared.normal.Normal.{Normal}
use Rattle.ur_rows.specs.declared.normal.Normal.TheVariants as normal
use Rattle.ur_rows.specs.declared.normal.Normal.TheBlock.{end_of-Normal as sole, more_of-Normal as the}

abbrev mutual
  pub type_height : NormalType → ℕ
  type_height (ty.Opt' _ (its t alone)) = type_height t + 1
  type_height (ty.Many' _ (its t alone)) = type_height t + 1
  type_height (ty.Transaction' _ (its t alone)) = type_height t + 1
  type_height (ty.Arrow' _ (its a alone) _ (its b alone)) = max (type_height a) (type_height b) + 1
  type_height (ty.Record' _ r) = parts_height r + 1
  type_height (ty.Form' _ r) = parts_height r + 1
  type_height t = 1

  pub parts_height : {n : _} → Row_of-Part n → ℕ
  parts_height end = 0
  parts_height (more p rest) = max (part_height p) (parts_height rest)

  pub part_height : Part → ℕ
  part_height (part.Field' l _ (its t alone)) = type_height t + 1
  part_height (part.Piece v) = 1
  part_height (part.Mapped' v _ (its f alone)) = type_height f + 1

abbrev pub row_height : List Part → ℕ
row_height [] = 0
row_height (p ∷ r) = max (part_height p) (row_height r)

abbrev pub height : Normal → ℕ
height (normal.Type t) = type_height t
height (normal.Name l) = 1
height (normal.Row r) = row_height r + 1
height (normal.Fn' k _ (the c sole)) = height c + 1

-- the greatest height that a normal form may have
abbrev pub most_levels : ℕ
most_levels = 4096
