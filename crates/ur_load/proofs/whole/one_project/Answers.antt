use Rattle.ur_load.proofs.Laws as laws
use Rattle.ur_load.proofs.whole.one_project.Goals as goal

pub returns : goal.returns
returns c = laws.one_project
