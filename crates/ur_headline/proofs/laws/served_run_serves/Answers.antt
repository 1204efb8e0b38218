use Rattle.ur_headline.proofs.Whole.{run_serves}
use Rattle.ur_headline.proofs.laws.served_run_serves.Goals as goal

pub returns : goal.returns
returns c = run_serves
