-- No type was found.
use Rattle.std.proofs.Common.{sym, subst}
use Rattle.ur_verify_operations.specs.Saying.{IsFound, no_type}
use Rattle.ur_verify_operations.proofs.misfit.no_type.Goals as goal

pub differing-requires : goal.differing-requires
differing-requires c = ∣ subst IsFound (sym c.in_ok-left.ensures) no_type ∣₁
