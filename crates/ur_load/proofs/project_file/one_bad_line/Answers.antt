use Rattle.ur_load.proofs.ProjectLaws.{one_wrong, no_project}
use Rattle.ur_load.proofs.project_file.one_bad_line.Goals as goal

pub returns-clause-one : goal.returns-clause-one
returns-clause-one c = one_wrong

pub returns-clause-none : goal.returns-clause-none
returns-clause-none c = no_project
