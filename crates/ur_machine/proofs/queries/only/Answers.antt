-- No row, or more than one.
use Rattle.std.proofs.Common.{Err, arith}
use Rattle.ur_machine.proofs.Giving.{gives_as, other_than_one}
use Rattle.ur_machine.proofs.queries.only.Goals as goal

pub returns-in-empty : goal.returns-in-empty
returns-in-empty c = gives_as (Err c.failed.result) (other_than_one c.args.rows.now (λ e. omega arith)) c.failed.ensures

pub returns-in_default : goal.returns-in_default
returns-in_default c = gives_as (Err c.failed-in_default.result) (other_than_one c.args.rows.now (λ e. omega arith)) c.failed-in_default.ensures
