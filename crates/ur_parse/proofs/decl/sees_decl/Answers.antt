use Rattle.std.proofs.Common.{◌∙◌}
use Rattle.ur_parse.proofs.ParseModuleDeclaring.{seen_declares, end_declares}
use Rattle.ur_parse.proofs.decl.sees_decl.Goals as goal

pub returns-in-Some : goal.returns-in-Some
returns-in-Some c = c.declares.ensures ∙ seen_declares c.args.tokens.now c.args.at _ c.in-Some.ensures

pub returns-in-None : goal.returns-in-None
returns-in-None c = end_declares c.args.tokens.now c.args.at c.in-None.ensures
