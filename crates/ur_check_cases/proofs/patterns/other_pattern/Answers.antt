use Rattle.std.proofs.Common.{◌∙◌}
use Rattle.ur_check_cases.proofs.Telling.{other-is}
use Rattle.ur_check_cases.proofs.patterns.other_pattern.Goals as goal

pub returns-in-Ok : goal.returns-in-Ok
returns-in-Ok c = other-is c.args.world.now.datatype_names c.as_slice.result.now c.args.of.now c.as_slice-name.result.now c.mismatch.result (c.as_slice-name.ensures ∙ c.in-Ok.ensures) c.as_slice.ensures (c.mismatch.ensures c.args.world.now.datatype_names)
