use Rattle.ur_check.proofs.Making.{slices-routed}
use Rattle.ur_check.proofs.assembled.routed.Goals as goal

pub returns : goal.returns
returns c =
    slices-routed c.args.names.now c.args.world.now c.args.entries.now c.args.bodies.now c.in_ok-made.made c.as_slice.result.now c.as_slice-2.result.now c.as_slice-3.result.now c.as_slice-4.result.now c.as_slice.ensures c.as_slice-2.ensures c.as_slice-3.ensures c.as_slice-4.ensures
    c.in_ok-made.ensures
