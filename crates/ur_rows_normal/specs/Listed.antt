-- Fields in written order, with their nodes counted.
use Rattle.std.specs.Prelude.{◌≡◌, ◌+◌, ◌<◌, ◌≤◌, List}
use Rattle.ur_rows.specs.declared.normal.Part.{Part}
use Rattle.ur_rows.specs.Made.{unit}
use Rattle.ur_rows.specs.Nodes.{row_nodes, most_nodes}
use Rattle.ur_rows.specs.Put.{mapped_row}
use Rattle.ur_rows_reduce.specs.Height.{row_height, most_levels}
use Rattle.ur_rows_normal.specs.declared.normal_fields.Listed.{Listed}
use Rattle.ur_rows_normal.specs.declared.normal_fields.Listed.TheVariants as listed

-- the parts with what is left of the nodes, or parts of the same names where there are too many nodes
abbrev pub ListedAs : Listed → List Part → Type 0
ListedAs (listed.Small s left) r = (s ≡ r) × (left + row_nodes r ≡ 65535) × (row_height r < most_levels)
ListedAs (listed.Large s) r = (most_nodes ≤ row_nodes r) × (mapped_row unit s ≡ mapped_row unit r)
