use Rattle.ur_typed_faults.proofs.Queries.{query_faulty}
use Rattle.ur_typed_faults.proofs.sqlcause_laws_law.none_query_is_faulty.Goals as goal

pub returns : goal.returns
returns c = query_faulty
