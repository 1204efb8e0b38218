use Rattle.ur_check_heads.proofs.Seeing.{define-at}
use Rattle.ur_check_heads.proofs.datatypes.define.Goals as goal

pub returns : goal.returns
returns c = λ home z k s. define-at c.args.project.now _ c.in_ok-home.home home z c.args.name.now k c.args.con.now c.in_ok-home.ensures c.in_ok-define.ensures.ok s
