use Rattle.ur_typed_faults.proofs.Declaring.{project_none}
use Rattle.ur_typed_faults.proofs.law.faulty_project_is_none.Goals as goal

pub returns : goal.returns
returns c = project_none (record { queries = c.faulty_query_is_none.ensures; changes = c.faulty_change_is_none.ensures })
