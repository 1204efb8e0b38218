use Rattle.std.proofs.lemmas.Result.{IfOk-weaker}
use Rattle.ur_lex.proofs.Found.{string_found}
use Rattle.ur_lex.proofs.front.string.Goals as goal

pub returns : goal.returns
returns c = IfOk-weaker c.quoted.result _ _ (string_found c.args.bytes.now c.requires) c.quoted.ensures
