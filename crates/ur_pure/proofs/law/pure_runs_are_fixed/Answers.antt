use Rattle.ur_pure.proofs.Fixing.{pure_is_fixed}
use Rattle.ur_pure.proofs.law.pure_runs_are_fixed.Goals as goal

pub returns : goal.returns
returns c = pure_is_fixed
