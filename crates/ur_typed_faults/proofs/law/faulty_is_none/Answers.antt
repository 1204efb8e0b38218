use Rattle.ur_typed_faults.proofs.Breaches.{faulty}
use Rattle.ur_typed_faults.proofs.law.faulty_is_none.Goals as goal

pub returns : goal.returns
returns c = faulty (record { queries = c.faulty_query_is_none.ensures; changes = c.faulty_change_is_none.ensures })
