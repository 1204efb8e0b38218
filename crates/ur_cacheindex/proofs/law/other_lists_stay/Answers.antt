use Rattle.ur_cacheindex.proofs.Chains.{taken_elsewhere}
use Rattle.ur_cacheindex.proofs.law.other_lists_stay.Goals as goal

pub returns : goal.returns
returns c = taken_elsewhere
