use Rattle.std.proofs.lemmas.Result.{IfOk-weaker}
use Rattle.ur_lex.proofs.Found.{attr_found}
use Rattle.ur_lex.proofs.front.attribute.Goals as goal

pub returns : goal.returns
returns c = IfOk-weaker c.quoted.result _ _ (attr_found c.args.bytes.now c.requires) c.quoted.ensures
