use Rattle.ur_rows_reduce.proofs.Holding.{function-large}
use Rattle.ur_rows_normal.proofs.walk.function_of.Goals as goal

pub returns-in-TypeFunction : goal.returns-in-TypeFunction
returns-in-TypeFunction c = λ k n m. function-large c.args.body.now k n m
