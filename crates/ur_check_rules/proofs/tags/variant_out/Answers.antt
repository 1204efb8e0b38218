use Rattle.ur_check_rules.proofs.Tagging.{plain-made, plain-told}
use Rattle.ur_check_rules.proofs.tags.variant_out.Goals as goal

pub returns-in_ok-made-in-None-clause-plain : goal.returns-in_ok-made-in-None-clause-plain
returns-in_ok-made-in-None-clause-plain c = plain-made c.args.variant.now.datatype c.args.number c.args.variant.now.arg c.in_ok-made-in-None.made c.in-None.is c.in_ok-made-in-None.ensures

pub returns-in-Some-clause-refused : goal.returns-in-Some-clause-refused
returns-in-Some-clause-refused c = plain-told c.args.variant.now.arg _ c.not_so.result c.in-Some.is c.not_so.ensures
