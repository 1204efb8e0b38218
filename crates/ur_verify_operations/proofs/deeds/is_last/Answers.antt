-- A record, of no fields exactly where this is so.
use Rattle.ur_verify_operations.proofs.Declared.{is_last}
use Rattle.ur_verify_operations.proofs.deeds.is_last.Goals as goal

pub returns-in-Record : goal.returns-in-Record
returns-in-Record c = is_last c.args.of.now c.in-Record.fields c.in-Record.is c.args.unit c.is_empty.result c.agree.result c.is_empty.ensures c.agree.ensures
