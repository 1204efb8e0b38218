-- The path is cut at its slashes, each piece is decoded, and the texts are read back.
use Rattle.ur_tags.proofs.LeadBack.{lead_back}
use Rattle.ur_tags.proofs.paths.routes_back.Goals as goal

pub returns : goal.returns
returns c = lead_back c.args.handlers.now c.requires
