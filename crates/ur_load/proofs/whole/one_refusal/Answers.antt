use Rattle.ur_load.proofs.OneRefusal as once
use Rattle.ur_load.proofs.whole.one_refusal.Goals as goal

pub returns : goal.returns
returns c = once.one_refusal
