-- The type that was found, as it is written.
use Rattle.ur_verify_operations.proofs.Unlikes.{written}
use Rattle.ur_verify_operations.proofs.misfit.unlike.Goals as goal

pub differing-requires : goal.differing-requires
differing-requires c = written _ c.args.found.now c.in_ok-left.left c.in_ok-left.ensures
