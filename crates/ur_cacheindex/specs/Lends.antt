-- What a map of items ends as, where a `&mut` to one of them is returned.
use Rattle.std.specs.Prelude.{ℕ}
use Rattle.std.specs.Borrow.{Lends, Fml, RattleType, MutBor}
use Rattle.std.specs.FinMap.{insert}
use Rattle.ur_cacheindex.specs.Items.{Items}
use Rattle.ur_cacheindex.specs.contracts.counted.Counted.{the_row}

-- once the borrow r ends, the number has the last value written through r
abbrev pub lends_item : (T : RattleType) → MutBor (Items T.Denot) → ℕ → MutBor T.Denot → Fml
lends_item T counted number r = Lends (the_row T) T counted r (insert counted.now number)
