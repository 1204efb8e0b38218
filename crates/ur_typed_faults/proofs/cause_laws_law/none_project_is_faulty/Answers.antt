use Rattle.ur_typed_faults.proofs.ExplainedDecls.{project_faulty}
use Rattle.ur_typed_faults.proofs.cause_laws_law.none_project_is_faulty.Goals as goal

pub returns : goal.returns
returns c = project_faulty
