use Rattle.ur_load.proofs.Named.{one_name}
use Rattle.ur_load.proofs.project_file.one_name_is_a_project.Goals as goal

pub returns : goal.returns
returns c = one_name
