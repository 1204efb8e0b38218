use Rattle.ur_load.proofs.ProjectLaws.{one_project_of}
use Rattle.ur_load.proofs.project_file.one_project_file.Goals as goal

pub returns : goal.returns
returns c = one_project_of
