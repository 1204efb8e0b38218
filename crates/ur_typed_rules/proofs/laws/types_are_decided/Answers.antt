use Rattle.ur_typed_rules.proofs.Rows.{rows_of_test, test_of_rows, type_decided, row_decided}
use Rattle.ur_typed_rules.proofs.laws.types_are_decided.Goals as goal

pub returns : goal.returns
returns c = record { rows = λ known t. (rows_of_test known t, test_of_rows known t); types = type_decided; written_rows = row_decided }
