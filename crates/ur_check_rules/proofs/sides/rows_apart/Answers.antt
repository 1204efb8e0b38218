use Rattle.ur_check_scopes.specs.Views.{env_in}
use Rattle.ur_check_rules.proofs.Sided.{rows-told}
use Rattle.ur_check_rules.proofs.sides.rows_apart.Goals as goal

pub returns : goal.returns
returns c = rows-told c.prove.result (env_in c.args.around.now.scope.cons).known c.args.left.now c.args.right.now c.as_slice.result.now c.as_slice-2.result.now c.as_slice.ensures c.as_slice-2.ensures c.prove.ensures
