-- The meaning of code: what a call of a route comes to, without caches.
use Rattle.std.specs.Prelude.{ℕ, Bool, if◌then◌else◌, nat_le, List, Option, Some, None, slice_get}
use Rattle.std.specs.List.{list_all}
use Rattle.ur_values.specs.declared.value.Value.{Value}
use Rattle.ur_values.specs.declared.value.Call.{Call}
use Rattle.ur_values.specs.Size.{greatest_size, size}
use Rattle.ur_values.specs.Sql.{Sql}
use Rattle.ur_values.specs.Store.{Row, Store}
use Rattle.ur_sql.specs.Sql.{sql_of}
use Rattle.ur_terms.specs.declared.term.Op.{Op}
use Rattle.ur_terms.specs.declared.term.Op.TheVariants as op
use Rattle.ur_terms.specs.State.{State, Outcome, Done, Error, Spent, Stuck}
use Rattle.ur_terms.specs.Ops.{does}
use Rattle.ur_terms.specs.Run.{Does, outcome_of}
use Rattle.ur_code.specs.declared.code.Code.{Code}

abbrev pub code_sql : Code → Sql
code_sql code = sql_of code.schema code.queries code.changes

-- values that may stand in a table
abbrev pub is_storable : Row → Bool
is_storable = list_all (λ x. nat_le (size x) greatest_size)

-- a store of such values
abbrev pub are_storable : Store → Bool
are_storable s = list_all (list_all is_storable) s.tables

-- what would store a value that is too large is spent
abbrev pub if_storable : Outcome Value → Outcome Value
if_storable (Done x s) = if are_storable s.store then Done x s else Spent s.events
if_storable (Error body events) = Error body events
if_storable (Spent events) = Spent events
if_storable Stuck = Stuck

-- A change stores no value that is too large; no other operation stores values.
abbrev pub limited : Op → Outcome Value → Outcome Value
limited (op.Write update) w = if_storable w
limited _ w = w

-- what operations of code do
abbrev pub does_code : Code → Does
does_code code o xs s = limited o (does (code_sql code) o xs s)

abbrev pub at_target : Code → Option ℕ → Call → State → Outcome Value
at_target code None call s = Stuck
at_target code (Some f) call s = outcome_of (does_code code) code.functions f call.args s

-- What a call of a route comes to. The router's own call costs nothing.
abbrev pub outcome : Code → Call → State → Outcome Value
outcome code call s = at_target code (slice_get code.targets call.route) call s
