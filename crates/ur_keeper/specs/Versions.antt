-- Tables under a transaction: as they were saved last, and as they are now.
use Rattle.std.specs.Prelude.{ℤ, List, [], refl}
use Rattle.std.specs.Coded.{Coded, code_by, coded×, coded_ℤ, coded_list}
use Rattle.ur_values.specs.declared.schema.Numbered.{Numbered}
use Rattle.ur_values.specs.contracts.schema.Numbered as numbered
use Rattle.ur_keeper.specs.Tables.{Tables}

-- the rows of one table
pub record Rows : Type 0 where
  pub saved : List Numbered
  pub current : List Numbered

abbrev pub rows_coded : Coded (List Numbered)
rows_coded = coded_list (numbered.the_row).coded

abbrev pub rows_code : Coded Rows
rows_code =
    code_by (List Numbered × List Numbered) (coded× rows_coded rows_coded) (λ r. (r.saved, r.current)) (λ p. record { saved = p.0; current = p.1 }) (λ _. refl)

-- without rows
abbrev pub no_rows : Rows
no_rows = record { saved = []; current = [] }

-- the same rows, saved and current
abbrev pub settled : List Numbered → Rows
settled rows = record { saved = rows; current = rows }

-- after a commit, after a rollback
abbrev pub committed : Rows → Rows
committed r = record { saved = r.current; current = r.current }

abbrev pub rolled_back : Rows → Rows
rolled_back r = record { saved = r.saved; current = r.saved }

-- all tables and sequences
pub record Both : Type 0 where
  pub saved : Tables
  pub current : Tables

abbrev pub tables_coded : Coded Tables
tables_coded =
    code_by (List (List Numbered) × List ℤ) (coded× (coded_list rows_coded) (coded_list coded_ℤ)) (λ t. (t.tables, t.sequences)) (λ p. record { tables = p.0; sequences = p.1 }) (λ _. refl)

abbrev pub both_code : Coded Both
both_code = code_by (Tables × Tables) (coded× tables_coded tables_coded) (λ b. (b.saved, b.current)) (λ p. record { saved = p.0; current = p.1 }) (λ _. refl)
