use Rattle.ur_headline.proofs.Lasting.{tables_last}
use Rattle.ur_headline.proofs.laws.sound_tables_last.Goals as goal

pub returns : goal.returns
returns c = tables_last
