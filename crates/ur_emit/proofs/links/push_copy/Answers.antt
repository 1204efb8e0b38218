use Rattle.std.proofs.Common.{ap}
use Rattle.ur_values.specs.declared.value.Value.TheVariants as v
use Rattle.ur_emit.proofs.Calls.{path_along}
use Rattle.ur_emit.proofs.links.push_copy.Goals as goal

pub returns : goal.returns
returns c = path_along c.push_value.result _ _ c.args.out.now c.push_value.new.out (ap v.Str c.in_ok-copy.ensures) c.push_value.ensures
