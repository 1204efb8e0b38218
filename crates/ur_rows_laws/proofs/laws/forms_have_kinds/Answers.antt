use Rattle.ur_rows_laws.proofs.Forms.{have-kinds}
use Rattle.ur_rows_laws.proofs.laws.forms_have_kinds.Goals as goal

pub returns : goal.returns
returns c = have-kinds c.args.env.now
