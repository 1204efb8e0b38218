use Rattle.ur_typed_faults.proofs.Refusals.{none_is_faulty}
use Rattle.ur_typed_faults.proofs.cause_laws_law.none_is_faulty.Goals as goal

pub returns : goal.returns
returns c = none_is_faulty
