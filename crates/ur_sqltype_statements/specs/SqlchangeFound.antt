-- What the typing of changes answers.
use Rattle.std.specs.Prelude.{◌≡◌, ℕ, List, Some}
use Rattle.ur_base.specs.declared.refusal.Refusal.{Refusal}
use Rattle.ur_values.specs.declared.schema.Schema.{Schema}
use Rattle.ur_syntax.specs.declared.sql.SqlChange.{SqlChange}
use Rattle.ur_rows.specs.declared.normal.Normal.{Normal}
use Rattle.ur_sqltype_statements.specs.declared.sqlchange_typed.TypedChange.{TypedChange}
use Rattle.ur_sqltype.specs.SqltableFaults.{Names}
use Rattle.ur_sqltype.specs.Antiquotes.{AreKinds}
use Rattle.ur_sqltype.specs.SqltypeFaults.{ChangeBreaks}
use Rattle.ur_sqltype.specs.Change.{change_of}

-- The change, in module `m`, over the tables and with these found types of its antiquotes, is this typed change.
pub record IsTypedChange (m : List ℕ) (tables : Schema) (found : List Normal) (u : SqlChange) (t : TypedChange) : Type 0 where
  pub kinds : AreKinds found t.antiquotes
  pub core : change_of m tables t.antiquotes u ≡ Some t.core

-- what breaks a rule is no typed change
abbrev pub BrokenIsUntyped : Type 0
BrokenIsUntyped = (datatypes : Names) (m : List ℕ) (tables : Schema) (found : List Normal) (u : SqlChange) (r : Refusal) → ChangeBreaks datatypes m tables found u r → (t : TypedChange) → IsTypedChange m tables found u t → ⊥
