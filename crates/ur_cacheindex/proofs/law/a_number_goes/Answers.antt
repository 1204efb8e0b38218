use Rattle.ur_cacheindex.proofs.Chains.{takes_off}
use Rattle.ur_cacheindex.proofs.law.a_number_goes.Goals as goal

pub returns : goal.returns
returns c = takes_off
