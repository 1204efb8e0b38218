-- What has no core has a fault.
use Rattle.std.specs.Prelude.{◌≡◌, ℕ, List, None}
use Rattle.ur_base.specs.declared.refusal.Refusal.{Refusal}
use Rattle.ur_syntax.specs.declared.sql.SqlForm.{SqlForm}
use Rattle.ur_syntax.specs.declared.sql.SqlQuery.{SqlQuery}
use Rattle.ur_syntax.specs.declared.sql.SqlChange.{SqlChange}
use Rattle.ur_values.specs.declared.schema.ColumnKind.{ColumnKind}
use Rattle.ur_values.specs.declared.schema.Schema.{Schema}
use Rattle.ur_sqltype.specs.declared.scope.Within.{Within}
use Rattle.ur_sqltype.specs.Expression.{kinded}
use Rattle.ur_sqltype.specs.Faults.{HasFault}
use Rattle.ur_sqltype.specs.Query.{query_of}
use Rattle.ur_sqltype.specs.Change.{change_of}
use Rattle.ur_sqltype.specs.SqltypeFaults.{QueryHasFault, ChangeHasFault}

abbrev pub NoneExpressionIsFaulty : Type 0
NoneExpressionIsFaulty = (w : Within) (e : SqlForm) → kinded w e ≡ None → (r : Refusal) × HasFault w e r

-- `names` are the names of fields in byte order, `kinds` the types of the antiquotes
abbrev pub NoneQueryIsFaulty : Type 0
NoneQueryIsFaulty = (m : List ℕ) (tables : Schema) (names : List (List ℕ)) (kinds : List ColumnKind) (q : SqlQuery) → query_of m tables names kinds q ≡ None → (r : Refusal) × QueryHasFault m tables names kinds q r

abbrev pub NoneChangeIsFaulty : Type 0
NoneChangeIsFaulty = (m : List ℕ) (tables : Schema) (kinds : List ColumnKind) (u : SqlChange) → change_of m tables kinds u ≡ None → (r : Refusal) × ChangeHasFault m tables kinds u r
