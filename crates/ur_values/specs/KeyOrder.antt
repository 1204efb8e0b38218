-- The order of the rows of a table by the columns of a key.
use Rattle.std.specs.Prelude.{ℕ, Bool, List, map}
use Rattle.std.specs.Borrow.{Bor}
use Rattle.std.specs.declared.cmp.Ordering.{Ordering}
use Rattle.std.specs.Ordering.{is_eq}
use Rattle.std.specs.Cmp.Lexicographic.{slice_cmp}
use Rattle.ur_values.specs.Order.{value_cmp}
use Rattle.ur_values.specs.Store.{Row}
use Rattle.ur_values.specs.Keys.{key_of}

-- the first column that differs decides
abbrev pub key_cmp : List ℕ → Row → Row → Ordering
key_cmp key a b = slice_cmp value_cmp (key_of key a) (key_of key b)

-- two lent rows agree on the columns of a key
abbrev pub agree : List ℕ → Bor Row → Bor Row → Bool
agree key a b = is_eq (key_cmp key a.now b.now)

-- the rows that are lent
abbrev pub lent_rows : List (Bor Row) → List Row
lent_rows = map (λ row. row.now)
