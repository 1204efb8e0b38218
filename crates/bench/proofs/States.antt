-- What the calls of the keeper make of such rows.
use Rattle.std.proofs.Common.{◌≡◌, ℕ, ◌+◌, ◌<◌, ◌≤◌, List, [], ◌∷◌, Option, Some, length, refl, ap, sym, subst, arith, ◌∙◌, true}
use Rattle.ur_values.specs.declared.schema.Schema.{Schema}
use Rattle.ur_values.specs.declared.schema.Numbered.{Numbered}
use Rattle.ur_values.specs.Store.{Row}
use Rattle.ur_keeper.specs.Tables.{Keeps, Tables, inserted, replaced, removed, HasNextNumber, HasRowAt, MayCommit, table_at}
use Rattle.ur_keeper.specs.Keeper.{HasTable, OfSchema, IsRowOf}
use Rattle.ur_keeper.specs.Memory.{Memory, empty_memory, kept_of, attached, begun, passed, read, changed, committed}
use Rattle.bench.specs.Rows.{rows_schema, table_of, Spans, HasRows}
use Rattle.bench.proofs.Spans.{spans-empty, spans-added, spans-put, spans-dropped, spans-later}

-- ---- what a call asks for

pub has-table : (kept : Option Schema) → kept ≡ Some rows_schema → HasTable (kept_of kept) 0
has-table kept e = subst (λ k. HasTable (kept_of k) 0) (sym e) (omega arith)

pub is-row : (kept : Option Schema) (row : Row) → kept ≡ Some rows_schema → IsRowOf (Keeps rows_schema) 0 row → IsRowOf (kept_of kept) 0 row
is-row kept row e r = subst (λ k. IsRowOf (kept_of k) 0 row) (sym e) r

pub has-next : (m : Memory) (high : ℕ) → HasRows 0 high m → high ≤ 1000000 → HasNextNumber 0 m.current
has-next m high h l = subst (λ t. HasNextNumber 0 t) (sym h.rows.1) (omega (arith, h.rows.2.next))

pub has-row : (m : Memory) (low high n : ℕ) → HasRows low high m → low ≤ n → n < high → HasRowAt 0 n m.current
has-row m low high n h l b = subst (λ t. HasRowAt 0 n t) (sym h.rows.1) (at h.rows.0 (h.rows.2.there n l b))
  where
    at : (rows : List Numbered) → HasRowAt 0 n (table_of rows) → HasRowAt 0 n (table_of rows)
    at rows t = t

pub may-commit : (m : Memory) (low high : ℕ) → HasRows low high m → high ≤ 1000000 → OfSchema (kept_of m.kept) (Some m.current) MayCommit
may-commit m low high h l =
    subst (λ k. OfSchema (kept_of k) (Some m.current) MayCommit) (sym h.kept)
    (subst (λ t. OfSchema (kept_of (Some rows_schema)) (Some t) MayCommit) (sym h.rows.1) (record { distinct = refl; not_over = omega (arith, h.rows.2.few) }, tt))

-- ---- what a call leaves

pub rows-inserted : (m : Memory) (n : ℕ) (row : Row) → HasRows 0 n m → HasRows 0 (n + 1) (changed (inserted 0 row) m)
rows-inserted m n row h = record {
  kept = h.kept;
  under_way = h.under_way;
  rows = (_, ap (inserted 0 row) h.rows.1, spans-added n h.rows.0 row h.rows.2);
}

pub rows-replaced : (m : Memory) (low high n : ℕ) (row : Row) → HasRows low high m → HasRows low high (changed (replaced 0 n row) m)
rows-replaced m low high n row h = record {
  kept = h.kept;
  under_way = h.under_way;
  rows = (_, ap (replaced 0 n row) h.rows.1, spans-put low high h.rows.0 n row h.rows.2);
}

pub rows-later : (m : Memory) (low low' high : ℕ) → low ≤ low' → HasRows low high m → HasRows low' high m
rows-later m low low' high l h = record { kept = h.kept; under_way = h.under_way; rows = (h.rows.0, h.rows.1, spans-later low low' high h.rows.0 l h.rows.2) }

pub rows-removed : (m : Memory) (low high n : ℕ) → low ≤ n → HasRows low high m → HasRows (n + 1) high (changed (removed 0 n) m)
rows-removed m low high n l h = record {
  kept = h.kept;
  under_way = h.under_way;
  rows = (_, ap (removed 0 n) h.rows.1, spans-dropped n high h.rows.0 (spans-later low n high h.rows.0 l h.rows.2));
}

pub rows-first : (fail : List ℕ) → HasRows 0 0 (begun (attached rows_schema (empty_memory fail)))
rows-first fail = record { kept = refl; under_way = refl; rows = ([], refl, spans-empty) }

pub rows-again : (m : Memory) (low high : ℕ) → HasRows low high m → HasRows low high (begun (committed m))
rows-again m low high h = record { kept = h.kept; under_way = refl; rows = h.rows }

pub rows-read : (m : Memory) (low high : ℕ) → HasRows low high m → HasRows low high (passed (read m))
rows-read m low high h = record { kept = h.kept; under_way = h.under_way; rows = h.rows }
