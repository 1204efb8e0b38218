use Rattle.ur_headline.proofs.Linking.{links_lead}
use Rattle.ur_headline.proofs.laws.links_of_source_lead.Goals as goal

pub returns : goal.returns
returns c = links_lead
