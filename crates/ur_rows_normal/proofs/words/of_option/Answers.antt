use Rattle.ur_rows_normal.proofs.NormalStanding.{of-option}
use Rattle.ur_rows_normal.proofs.words.of_option.Goals as goal

pub returns : goal.returns
returns c = of-option c.function.result c.in_ok-boxed.field-0 c.last_variable.result c.in_ok-boxed.ensures c.last_variable.ensures c.function.ensures
