-- Items by number.
use Rattle.std.specs.Ordering.{nat_cmp}
use Rattle.std.specs.FinMap.{FinMap, from_entries}
use Rattle.slab.specs.Slab.{Slab, entries}

abbrev pub Items : Type 0 → Type 0
Items T = FinMap nat_cmp T

-- the items of a slab by their keys
abbrev pub items_of : {T : Type 0} → Slab T → Items T
items_of slab = from_entries (entries slab)
