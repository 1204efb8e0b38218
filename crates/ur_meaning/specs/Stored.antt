-- What operations do where no value that is too large is stored.
use Rattle.std.specs.Prelude.{Bool, if◌then◌else◌, nat_le}
use Rattle.std.specs.List.{list_all}
use Rattle.ur_values.specs.declared.value.Value.{Value}
use Rattle.ur_values.specs.Size.{greatest_size, size}
use Rattle.ur_values.specs.Sql.{Sql}
use Rattle.ur_values.specs.Store.{Row, Store}
use Rattle.ur_terms.specs.declared.term.Op.{Op}
use Rattle.ur_terms.specs.declared.term.Op.TheVariants as op
use Rattle.ur_terms.specs.State.{Outcome, Done, Error, Spent, Stuck}
use Rattle.ur_terms.specs.Ops.{does}
use Rattle.ur_terms.specs.Run.{Does}

abbrev pub is_storable : Row → Bool
is_storable = list_all (λ x. nat_le (size x) greatest_size)

abbrev pub are_storable : Store → Bool
are_storable s = list_all (list_all is_storable) s.tables

-- what would store a value that is too large is spent
abbrev pub if_storable : Outcome Value → Outcome Value
if_storable (Done x s) = if are_storable s.store then Done x s else Spent s.events
if_storable (Error body events) = Error body events
if_storable (Spent events) = Spent events
if_storable Stuck = Stuck

-- A change stores no value that is too large; no other operation stores values.
abbrev pub limited : Op → Outcome Value → Outcome Value
limited (op.Write update) w = if_storable w
limited _ w = w

abbrev pub does_stored : Sql → Does
does_stored sql o xs s = limited o (does sql o xs s)
