use Rattle.ur_conditions.proofs.AllKeep.{all_read}
use Rattle.ur_conditions.proofs.law.patterns_read_arguments.Goals as goal

pub returns : goal.returns
returns c = all_read
