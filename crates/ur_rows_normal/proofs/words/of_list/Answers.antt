use Rattle.ur_rows_normal.proofs.NormalStanding.{of-list}
use Rattle.ur_rows_normal.proofs.words.of_list.Goals as goal

pub returns : goal.returns
returns c = of-list c.function.result c.in_ok-boxed.field-0 c.last_variable.result c.in_ok-boxed.ensures c.last_variable.ensures c.function.ensures
