-- What is kept of a normal form that may have too many nodes. A form that is kept is no higher than a form may be.
use Rattle.std.specs.Prelude.{◌≡◌, ◌+◌, ◌<◌, ◌≤◌, List, Option, Some, None}
use Rattle.ur_rows.specs.declared.normal.NormalType.{NormalType}
use Rattle.ur_rows.specs.declared.normal.Part.{Part}
use Rattle.ur_rows.specs.declared.normal.Normal.{Normal}
use Rattle.ur_rows.specs.declared.normal.Normal.TheVariants as normal
use Rattle.ur_rows.specs.declared.normal.Normal.TheBlock.{end_of-Normal as sole, more_of-Normal as the}
use Rattle.ur_rows.specs.Made.{unit}
use Rattle.ur_rows.specs.Nodes.{type_nodes, row_nodes, nodes, most_nodes}
use Rattle.ur_rows.specs.Put.{as_type, as_row, mapped_row}
use Rattle.ur_rows.specs.Normal.{as_function}
use Rattle.ur_rows_reduce.specs.Height.{type_height, row_height, height, most_levels}
use Rattle.ur_rows_reduce.specs.declared.held.Large.{Large}
use Rattle.ur_rows_reduce.specs.declared.held.Large.TheVariants as large
use Rattle.ur_rows_reduce.specs.declared.held.Held.{Held}
use Rattle.ur_rows_reduce.specs.declared.held.Held.TheVariants as held
use Rattle.ur_rows_reduce.specs.declared.held.Fields.{Fields}
use Rattle.ur_rows_reduce.specs.declared.held.Fields.TheVariants as fields

-- the row with each field's type, and each function that is mapped, replaced by unit
abbrev pub Outlines : Option (List Part) → List Part → Type 0
Outlines None r = Unit {0}
Outlines (Some s) r = s ≡ mapped_row unit r

-- what is known of a form that is too large
abbrev pub Means : Large → Normal → Type 0
Means large.Type n = most_nodes < type_nodes (as_type n)
Means (large.Row o) n = (most_nodes ≤ row_nodes (as_row n)) × Outlines o (as_row n)
Means large.TypeFunction n = most_nodes ≤ type_nodes (as_function n)
Means large.Function n = most_nodes < nodes n

-- the form, which is neither too large nor too high, or that it is too large
abbrev pub Holds : Held → Normal → Type 0
Holds (held.Form x) n = (x ≡ n) × (nodes n ≤ most_nodes) × (height n ≤ most_levels)
Holds (held.Large l) n = Means l n

-- the same for types and rows
abbrev pub TypeIs : Option NormalType → NormalType → Type 0
TypeIs (Some x) t = (x ≡ t) × (type_nodes t ≤ most_nodes) × (type_height t ≤ most_levels)
TypeIs None t = most_nodes < type_nodes t

abbrev pub RowIs : Fields → List Part → Type 0
RowIs (fields.Small s left) r = (s ≡ r) × (left + row_nodes r ≡ 65535) × (row_height r < most_levels)
RowIs (fields.Large o) r = (most_nodes ≤ row_nodes r) × Outlines o r

-- forms of the same kind
abbrev pub SameShape : Normal → Normal → Type 0
SameShape (normal.Type t) (normal.Type u) = Unit {0}
SameShape (normal.Name l) (normal.Name m) = Unit {0}
SameShape (normal.Row r) (normal.Row s) = Unit {0}
SameShape (normal.Fn' k _ (the c sole)) (normal.Fn' j _ (the d sole)) = SameShape c d
SameShape _ _ = ⊥
