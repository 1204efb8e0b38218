use Rattle.ur_parse_embed_code.proofs.Trimmed.{one_beyond}
use Rattle.ur_parse_embed_code.proofs.law.nesting_is_reached.Goals as goal

pub returns : goal.returns
returns c = one_beyond
