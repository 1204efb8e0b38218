use Rattle.ur_cacheindex.proofs.Chains.{put_elsewhere}
use Rattle.ur_cacheindex.proofs.law.other_lists_stay_too.Goals as goal

pub returns : goal.returns
returns c = put_elsewhere
