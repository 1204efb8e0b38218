use Rattle.std.proofs.Common.{◌∙◌}
use Rattle.ur_check_rules.proofs.Tagging.{wanted-is}
use Rattle.ur_check_rules.proofs.tags.not_wanted.Goals as goal

pub returns-in-Ok : goal.returns-in-Ok
returns-in-Ok c = wanted-is c.args.around.now.world.now.datatype_names c.as_slice.result.now c.args.wanted.now c.args.found.now c.as_slice-name.result.now c.mismatch.result (c.as_slice-name.ensures ∙ c.in-Ok.ensures) c.as_slice.ensures (c.mismatch.ensures c.args.around.now.world.now.datatype_names)
