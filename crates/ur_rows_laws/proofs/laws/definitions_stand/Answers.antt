use Rattle.ur_rows_laws.proofs.Forms.{definitions-stand}
use Rattle.ur_rows_laws.proofs.laws.definitions_stand.Goals as goal

pub returns : goal.returns
returns c = definitions-stand c.args.env.now
