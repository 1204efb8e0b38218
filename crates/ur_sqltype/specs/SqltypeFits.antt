-- The cores of queries and changes fit their tables.
use Rattle.std.specs.Prelude.{◌≡◌, ℕ, List, Some}
use Rattle.ur_values.specs.declared.schema.ColumnKind.{ColumnKind}
use Rattle.ur_values.specs.declared.schema.Schema.{Schema}
use Rattle.ur_syntax.specs.declared.sql.SqlQuery.{SqlQuery}
use Rattle.ur_syntax.specs.declared.sql.SqlChange.{SqlChange}
use Rattle.ur_sql.specs.declared.query.Query.{Query}
use Rattle.ur_sql.specs.declared.change.Change.{Change}
use Rattle.ur_sql.specs.Typing.{QueryFits, ChangeFits}
use Rattle.ur_sqltype.specs.Query.{query_of}
use Rattle.ur_sqltype.specs.Change.{change_of}

-- a core fits its tables
abbrev pub QueryOfFits : Type 0
QueryOfFits = (m : List ℕ) (tables : Schema) (names : List (List ℕ)) (antiquotes : List ColumnKind) (q : SqlQuery) (core : Query) → query_of m tables names antiquotes q ≡ Some core → QueryFits tables core

abbrev pub ChangeOfFits : Type 0
ChangeOfFits = (m : List ℕ) (tables : Schema) (antiquotes : List ColumnKind) (u : SqlChange) (core : Change) → change_of m tables antiquotes u ≡ Some core → ChangeFits tables core
