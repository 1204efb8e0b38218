use Rattle.ur_check_cases.proofs.Folding.{large-told}
use Rattle.ur_check_cases.proofs.rows.halted.Goals as goal

pub returns-in-TooLarge : goal.returns-in-TooLarge
returns-in-TooLarge c = large-told c.args.halt c.too_large.result c.in-TooLarge.is c.too_large.ensures
