use Rattle.ur_typed_rules.proofs.Rows.{two_rows, one_row}
use Rattle.ur_typed_rules.proofs.laws.rows_are_decided.Goals as goal

pub returns : goal.returns
returns c = record { two = two_rows; one = one_row }
