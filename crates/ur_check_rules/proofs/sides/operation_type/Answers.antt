use Rattle.std.proofs.Common.{ap}
use Rattle.ur_check_scopes.specs.Views.{env_in}
use Rattle.ur_check_scopes.proofs.Exits.{refused-along, refuses, ok-along}
use Rattle.ur_check_rules.specs.Views.{operation_in}
use Rattle.ur_check_rules.specs.Sides.{BreaksJoin, BreaksOperation}
use Rattle.ur_check_rules.proofs.Sided.{joined-operation, broken-operation}
use Rattle.ur_check_rules.proofs.sides.operation_type.Goals as goal

pub returns-in-Joins-clause-typed : goal.returns-in-Joins-clause-typed
returns-in-Joins-clause-typed c =
    ok-along c.join_type.result (λ t h. joined-operation (env_in c.args.around.now.scope.cons).known (operation_in c.args.operation.now) c.args.left.now c.args.right.now t (ap operation_in c.in-Joins.is) h) c.join_type.ensures.joined

pub returns-in-Joins-clause-refused : goal.returns-in-Joins-clause-refused
returns-in-Joins-clause-refused c =
    let names = c.args.around.now.world.now.datatype_names in
    let known = (env_in c.args.around.now.scope.cons).known in
    refused-along c.join_type.result
    (refuses names (BreaksJoin names known c.args.left.now c.args.right.now) (BreaksOperation names known (operation_in c.args.operation.now) c.args.left.now c.args.right.now)
    (broken-operation names known (operation_in c.args.operation.now) c.args.left.now c.args.right.now (ap operation_in c.in-Joins.is)))
    c.join_type.ensures.refused
