use Rattle.ur_check_heads.proofs.Forming.{part-is}
use Rattle.ur_check_heads.proofs.forms.field_of.Goals as goal

pub returns-in_ok-field-in-Field-clause-part : goal.returns-in_ok-field-in-Field-clause-part
returns-in_ok-field-in-Field-clause-part c = part-is c.args.names.now c.in_ok-field-in-Field.field c.args.part.now c.in-Field.label c.in-Field.of c.get.result.now c.in-Field.is c.get.ensures c.in_ok-field-in-Field.ensures.part
