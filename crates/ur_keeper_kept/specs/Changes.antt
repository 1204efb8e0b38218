-- What one change of the map is to the tables.
use Rattle.std.specs.Prelude.{◌≡◌, ℕ, ◌<◌, pos, ◌+ℤ◌, ◌≤ℤ◌, true, length}
use Rattle.std.specs.FinMap.{insert, remove}
use Rattle.ur_values.specs.declared.schema.Schema.{Schema}
use Rattle.ur_values.specs.Numbered.{next_number, has_number}
use Rattle.ur_values.specs.Store.{Row}
use Rattle.ur_keeper.specs.Tables.{inserted, replaced, removed, drawn}
use Rattle.ur_keeper_bodies.specs.Rows.{int_body}
use Rattle.ur_keeper_bodies.specs.Columns.{columns_body}
use Rattle.ur_values.specs.Values.{IsInt}
use Rattle.ur_keeper_bodies.specs.Bodies.{BodyMap}
use Rattle.ur_keeper_kept.specs.Laid.{table_tab, columns_at, MayWrite, table_in, number_in, tables_in, IsLaid}

abbrev pub AnAddInserts : Type 0
AnAddInserts = (s : Schema) (m : BodyMap) (i : ℕ) (row : Row) → i < length s.tables → IsLaid s m → MayWrite (columns_at s i) row
    → (tables_in s (insert m (table_tab i, pos (next_number (table_in s m i))) (columns_body (columns_at s i) row)) ≡ inserted i row (tables_in s m))
    × IsLaid s (insert m (table_tab i, pos (next_number (table_in s m i))) (columns_body (columns_at s i) row))

abbrev pub ADropRemoves : Type 0
ADropRemoves = (s : Schema) (m : BodyMap) (i n : ℕ) → i < length s.tables → IsLaid s m
    → (tables_in s (remove m (table_tab i, pos n)) ≡ removed i n (tables_in s m)) × IsLaid s (remove m (table_tab i, pos n))

abbrev pub APutReplaces : Type 0
APutReplaces = (s : Schema) (m : BodyMap) (i n : ℕ) (row : Row) → i < length s.tables → IsLaid s m → MayWrite (columns_at s i) row → has_number (table_in s m i) n ≡ true
    → (tables_in s (insert m (table_tab i, pos n) (columns_body (columns_at s i) row)) ≡ replaced i n row (tables_in s m)) × IsLaid s (insert m (table_tab i, pos n) (columns_body (columns_at s i) row))

abbrev pub ANumberIsDrawn : Type 0
ANumberIsDrawn = (s : Schema) (m : BodyMap) (q : ℕ) → q < length s.sequences → IsLaid s m → IsInt (number_in m q +ℤ pos 1) → pos 1 ≤ℤ (number_in m q +ℤ pos 1)
    → (tables_in s (insert m (pos 1, pos q) (int_body (number_in m q +ℤ pos 1))) ≡ drawn q (tables_in s m)) × IsLaid s (insert m (pos 1, pos q) (int_body (number_in m q +ℤ pos 1)))
