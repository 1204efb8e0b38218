use Rattle.std.proofs.Common.{refl}
use Rattle.ur_machine_operations.proofs.Opened.{present_one, not_present}
use Rattle.ur_machine_operations.proofs.matching.bind_present.Goals as goal

pub returns-in-Present : goal.returns-in-Present
returns-in-Present c = present_one _ _ _ c.one.result c.found.result c.in-Present.is c.into_inner.ensures c.one.ensures c.found.ensures

pub returns-in_default : goal.returns-in_default
returns-in_default c = (refl, not_present c.args.value c.in_default.not-Present)
