-- The rows of a table under change.
use Rattle.std.specs.Prelude.{Bool, true, false, List, [], ◌∷◌}
use Rattle.ur_values.specs.declared.schema.Numbered.{Numbered}

-- the rows that are not marked as gone; rows beyond the marks are not
abbrev pub left : List Numbered → List Bool → List Numbered
left [] gone = []
left (r ∷ rows) [] = r ∷ rows
left (r ∷ rows) (true ∷ gone) = left rows gone
left (r ∷ rows) (false ∷ gone) = r ∷ left rows gone
