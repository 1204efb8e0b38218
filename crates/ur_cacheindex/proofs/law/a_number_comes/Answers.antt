use Rattle.ur_cacheindex.proofs.Chains.{puts_front}
use Rattle.ur_cacheindex.proofs.law.a_number_comes.Goals as goal

pub returns : goal.returns
returns c = puts_front
