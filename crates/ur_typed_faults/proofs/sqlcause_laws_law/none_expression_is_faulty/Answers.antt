use Rattle.ur_typed_faults.proofs.Expressions.{expression_faulty}
use Rattle.ur_typed_faults.proofs.sqlcause_laws_law.none_expression_is_faulty.Goals as goal

pub returns : goal.returns
returns c = expression_faulty
