-- What an expression was evaluated to, as the value that it stands for.
use Rattle.ur_values.specs.declared.value.Value.{Value}
use Rattle.ur_values.specs.declared.value.Value.TheVariants as v
use Rattle.ur_values.specs.Store.{Row}
use Rattle.ur_sql.specs.declared.operand.Content.{Content}
use Rattle.ur_sql.specs.declared.operand.Content.TheVariants as c
use Rattle.ur_sql.specs.declared.operand.Operand.{Operand}
use Rattle.ur_sql.specs.declared.operand.Operand.TheVariants as o

abbrev pub content_in : Content → Value
content_in (c.Held x) = x.now
content_in (c.Int n) = v.Int n
content_in (c.Bool b) = v.Bool b

abbrev pub value_in : Operand → Value
value_in (o.Held x) = x.now
value_in (o.Int n) = v.Int n
value_in (o.Bool b) = v.Bool b
value_in o.Absent = v.Absent
value_in (o.Present x) = v.Present (content_in x)

abbrev pub IsNoInt : Value → Type 0
IsNoInt (v.Int n) = ⊥
IsNoInt _ = Unit {0}
