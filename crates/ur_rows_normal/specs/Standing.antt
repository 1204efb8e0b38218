-- What stands in the types of a row.
use Rattle.std.specs.Prelude.{◌&&◌, ◌||◌, Bool, true, false, List, [], ◌∷◌}
use Rattle.ur_rows.specs.declared.normal.Part.{Part}
use Rattle.ur_rows.specs.Types.{part_holds_arrow, part_placed}

abbrev pub row_holds_arrow : List Part → Bool
row_holds_arrow [] = false
row_holds_arrow (p ∷ r) = part_holds_arrow p || row_holds_arrow r

abbrev pub row_is_placed : List Part → Bool
row_is_placed [] = true
row_is_placed (p ∷ r) = part_placed p && row_is_placed r
