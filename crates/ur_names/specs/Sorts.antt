-- Sorts of names as numbers.
use Rattle.std.specs.Prelude.{ℕ, nat_eq, Bool}
use Rattle.ur_names.specs.declared.event.Sort.{Sort}
use Rattle.ur_names.specs.declared.event.Sort.TheVariants as sort

abbrev pub sort_number : Sort → ℕ
sort_number sort.Con = 0
sort_number sort.Value = 1
sort_number sort.Constructor = 2
sort_number sort.Table = 3
sort_number sort.Sequence = 4
sort_number sort.Cookie = 5

abbrev pub same_sort : Sort → Sort → Bool
same_sort s t = nat_eq (sort_number s) (sort_number t)
