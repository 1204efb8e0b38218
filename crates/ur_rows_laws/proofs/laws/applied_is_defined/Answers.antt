use Rattle.ur_rows_laws.proofs.Forms.{applied-is-defined}
use Rattle.ur_rows_laws.proofs.laws.applied_is_defined.Goals as goal

pub returns : goal.returns
returns c = applied-is-defined c.args.env.now
