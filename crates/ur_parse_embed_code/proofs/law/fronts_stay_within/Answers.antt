use Rattle.ur_parse_embed_code.proofs.Fronts.{stays_within}
use Rattle.ur_parse_embed_code.proofs.law.fronts_stay_within.Goals as goal

pub returns : goal.returns
returns c = stays_within
