-- Which operations play their part.
use Rattle.std.proofs.Common.{◌≡◌, List, refl}
use Rattle.ur_values.specs.declared.value.Value.{Value}
use Rattle.ur_values.specs.Sql.{Sql}
use Rattle.ur_terms.specs.declared.term.Op.{Op}
use Rattle.ur_terms.specs.declared.term.Op.TheVariants as op
use Rattle.ur_terms.specs.State.{State}
use Rattle.ur_terms.specs.Ops.{does}
use Rattle.ur_terms.specs.Run.{NeverRaises}
use Rattle.ur_terms.proofs.Bound.{does_never_raises}
use Rattle.ur_machine_frames.specs.Plays.{Plays, IsLocal, nothing, until}

until_plain : (o : Op) → IsLocal o → (xs : List Value) (s : State) → until o xs s ≡ does nothing o xs s
until_plain (op.Ask how site) l xs s = absurd l
until_plain (op.Write update) l xs s = absurd l
until_plain (op.Next q) l xs s = absurd l
until_plain o l xs s = refl

until_units : NeverRaises until
until_units (op.Ask how site) xs s = tt
until_units (op.Write update) xs s = tt
until_units (op.Next q) xs s = tt
until_units o xs s = does_never_raises nothing o xs s

-- the operations that stop at tables
pub until_plays : Plays until
until_plays = record { plain = until_plain; units = until_units }

does_plain : (sql : Sql) (o : Op) → IsLocal o → (xs : List Value) (s : State) → does sql o xs s ≡ does nothing o xs s
does_plain sql (op.Ask how site) l xs s = absurd l
does_plain sql (op.Write update) l xs s = absurd l
does_plain sql (op.Next q) l xs s = absurd l
does_plain sql o l xs s = refl

-- those of the table, whatever queries and changes do
pub does_plays : (sql : Sql) → Plays (does sql)
does_plays sql = record { plain = does_plain sql; units = does_never_raises sql }
