use Rattle.ur_typed_faults.proofs.Changes.{change_faulty}
use Rattle.ur_typed_faults.proofs.sqlcause_laws_law.none_change_is_faulty.Goals as goal

pub returns : goal.returns
returns c = change_faulty
