use Rattle.ur_check_heads.proofs.Targeting.{routes-are}
use Rattle.ur_typed.specs.Typed.{all_occurrences}
use Rattle.std.proofs.Common.{◌++◌}
use Rattle.ur_check_heads.proofs.routes.routes_of.Goals as goal

pub returns : goal.returns
returns c =
    routes-are c.args.modules.now c.args.names.now c.args.functions.now c.args.entries.now (all_occurrences (c.args.vals.now ++ c.args.bodies.now)) c.in_ok-aims.aims c.as_slice.result.now c.in_ok-made.made c.in_ok-aims.ensures c.as_slice.ensures c.in_ok-made.ensures.targets
    c.in_ok-made.ensures.methods c.in_ok-made.ensures.fit
