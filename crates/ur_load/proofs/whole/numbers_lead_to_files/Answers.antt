use Rattle.ur_load.proofs.Numbers as numbers
use Rattle.ur_load.proofs.whole.numbers_lead_to_files.Goals as goal

pub returns : goal.returns
returns c = numbers.numbers_lead_to_files
