use Rattle.ur_rows_normal.proofs.Environs.{stands-variable, stands-defined, stands-datatype}
use Rattle.ur_rows_normal.proofs.environment.held_for.Goals as goal

pub returns-in_ok-variable-in-Variable : goal.returns-in_ok-variable-in-Variable
returns-in_ok-variable-in-Variable c = stands-variable c.args.home.now c.args.known.now c.args.variables c.args.entry.now c.in_ok-variable-in-Variable.field-0 c.in-Variable.is c.in_ok-variable-in-Variable.ensures

pub returns-in-Defined : goal.returns-in-Defined
returns-in-Defined c = stands-defined c.held_at.result c.args.home.now c.home_of.result.now c.args.known.now c.args.variables c.args.entry.now c.in-Defined.con c.in-Defined.is c.home_of.ensures c.held_at.ensures

pub returns-in-Datatype : goal.returns-in-Datatype
returns-in-Datatype c = stands-datatype c.args.home.now c.args.known.now c.args.variables c.in-Datatype.d c.args.entry.now c.in-Datatype.is
