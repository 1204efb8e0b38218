use Rattle.ur_check_rules.proofs.Naming.{seen-there, function-found}
use Rattle.std.proofs.Common.{refl}
use Rattle.ur_check_rules.proofs.values.function_of.Goals as goal

pub returns : goal.returns
returns c =
    let a = c.args.around.now in
    function-found a c.args.key.now c.as_function.result c.seen.result
    (seen-there a.world.now.env.home c.as_slice-home.result.now c.args.key.now a.world.now.values c.as_slice.result.now c.seen.result c.seen.result c.as_slice-home.ensures c.as_slice.ensures c.seen.ensures refl) c.as_function.ensures
