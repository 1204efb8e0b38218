use Rattle.ur_load.proofs.Laws as laws
use Rattle.ur_load.proofs.whole.refused_is_not_loaded.Goals as goal

pub returns : goal.returns
returns c = laws.refused_is_not_loaded
