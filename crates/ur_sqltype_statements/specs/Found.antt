-- What the typing of queries answers.
use Rattle.std.specs.Prelude.{◌≡◌, ℕ, List, Some}
use Rattle.ur_base.specs.declared.refusal.Refusal.{Refusal}
use Rattle.ur_values.specs.declared.schema.Schema.{Schema}
use Rattle.ur_syntax.specs.declared.sql.SqlQuery.{SqlQuery}
use Rattle.ur_rows.specs.declared.normal.Normal.{Normal}
use Rattle.ur_tree.specs.QueryRow.{query_row}
use Rattle.ur_sqltype_statements.specs.declared.typed.TypedQuery.{TypedQuery}
use Rattle.ur_sqltype.specs.SqltableFaults.{Names}
use Rattle.ur_sqltype.specs.Antiquotes.{AreKinds}
use Rattle.ur_sqltype.specs.SqltypeFaults.{QueryBreaks}
use Rattle.ur_sqltype.specs.Query.{query_of}

-- The query, in module `m`, over the tables and with these found types of its antiquotes, is this typed query. `names` are the names
-- of fields in byte order.
pub record IsTypedQuery (m : List ℕ) (tables : Schema) (names : List (List ℕ)) (found : List Normal) (q : SqlQuery) (t : TypedQuery) : Type 0 where
  pub kinds : AreKinds found t.antiquotes
  pub core : query_of m tables names t.antiquotes q ≡ Some t.core
  pub row : t.row ≡ query_row names t.core

-- what breaks a rule is no typed query
abbrev pub BrokenIsUntyped : Type 0
BrokenIsUntyped = (datatypes : Names) (m : List ℕ) (tables : Schema) (names : List (List ℕ)) (found : List Normal) (q : SqlQuery) (r : Refusal) → QueryBreaks datatypes m tables names found q r → (t : TypedQuery) → IsTypedQuery m tables names found q t → ⊥
