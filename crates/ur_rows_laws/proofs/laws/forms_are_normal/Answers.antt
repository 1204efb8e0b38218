use Rattle.ur_rows.proofs.InOrder.{nf-normal}
use Rattle.ur_rows_laws.proofs.laws.forms_are_normal.Goals as goal

pub returns : goal.returns
returns c = nf-normal c.args.env.now
