-- The one table of the database with the index of its key, and the texts of the six statements.
use Rattle.std.specs.Prelude.{true, false, [], ◌∷◌, None, codes, List, ℕ}
use Rattle.sqlite.specs.declared.types.Value.TheVariants.{Null}
use Rattle.sqlite.specs.Collation.TheVariants.{Binary}
use Rattle.sqlite.specs.Table.{Table}
use Rattle.sqlite.specs.Schema.{Schema}
use Rattle.sqlite.specs.Kind.{Kind}
use Rattle.sqlite.specs.Kind.TheVariants.{Integer, Any}
use Rattle.sqlite_schema.specs.declared.schema.Column.{Column}
use Rattle.sqlite_schema.specs.declared.schema.Index.{Index}

-- a column with this affinity, which is NOT NULL; BLOB has none
abbrev pub column_named : List ℕ → Kind → Column
column_named name kind = record { name = name; kind = kind; is_strict = false; not_null = true; default = Null; collation = Binary }

abbrev pub ur_row : Table
ur_row = record {
  name = codes "ur_row";
  tree = 0;
  columns = column_named (codes "Tab") Integer ∷ column_named (codes "Num") Integer ∷ column_named (codes "Body") Any ∷ [];
  key = None;
  primary = 1 ∷ 2 ∷ [];
  uniques = (1 ∷ 2 ∷ []) ∷ [];
  orders = record { digits = 0 } ∷ [];
  checks = [];
  references = [];
  computed = [];
  stamps = record { places = []; terms = []; formats = [] };
  is_counted = false;
}

abbrev pub ur_key : Index
ur_key = record { name = codes "sqlite_autoindex_ur_row_1"; tree = 1; table = 0; columns = 1 ∷ 2 ∷ []; order = record { digits = 0 }; is_unique = true }

abbrev pub ur_schema : Schema
ur_schema = record { tables = ur_row ∷ []; indexes = ur_key ∷ []; views = [] }

abbrev pub no_schema : Schema
no_schema = record { tables = []; indexes = []; views = [] }

-- ---- the statements

abbrev pub create_text : List ℕ
create_text = codes "CREATE TABLE IF NOT EXISTS ur_row (Tab INTEGER NOT NULL, Num INTEGER NOT NULL, Body BLOB NOT NULL, PRIMARY KEY (Tab, Num))"

abbrev pub read_text : List ℕ
read_text = codes "SELECT Num, Body FROM ur_row WHERE Tab = ?1 ORDER BY Num"

abbrev pub one_text : List ℕ
one_text = codes "SELECT Body FROM ur_row WHERE Tab = ?1 AND Num = ?2"

abbrev pub add_text : List ℕ
add_text = codes "INSERT INTO ur_row (Tab, Num, Body) VALUES (?1, ?2, ?3)"

abbrev pub put_text : List ℕ
put_text = codes "UPDATE ur_row SET Body = ?3 WHERE Tab = ?1 AND Num = ?2"

abbrev pub drop_text : List ℕ
drop_text = codes "DELETE FROM ur_row WHERE Tab = ?1 AND Num = ?2"
