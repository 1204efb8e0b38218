use Rattle.ur_headline.proofs.Carrying.{serves_source}
use Rattle.ur_headline.proofs.laws.code_serves_source.Goals as goal

pub returns : goal.returns
returns c = serves_source
