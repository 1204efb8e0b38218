-- More than one row.
use Rattle.std.proofs.Common.{Err, arith}
use Rattle.ur_machine.proofs.Giving.{gives_as, more_than_one}
use Rattle.ur_machine.proofs.queries.at_most_one.Goals as goal

pub returns-in_default : goal.returns-in_default
returns-in_default c = gives_as (Err c.failed.result) (more_than_one c.args.rows.now (omega arith)) c.failed.ensures
