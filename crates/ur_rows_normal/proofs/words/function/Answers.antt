use Rattle.ur_rows_normal.proofs.NormalStanding.{function-made}
use Rattle.ur_rows_normal.proofs.words.function.Goals as goal

pub returns : goal.returns
returns c = function-made c.in_ok-boxed_normal.field-0 c.args.body c.in_ok-boxed_normal.ensures
