use Rattle.std.proofs.Common.{sym, ◌∙◌}
use Rattle.ur_check_scopes.specs.Views.{env_in}
use Rattle.ur_check_rules.proofs.Sided.{joined-made, joined-told}
use Rattle.ur_check_rules.proofs.sides.joined_rows.Goals as goal

pub returns-then-rows_apart-clause-joined : goal.returns-then-rows_apart-clause-joined
returns-then-rows_apart-clause-joined c = joined-made (env_in c.args.around.now.scope.cons).known c.args.left.now c.args.right.now c.in_ok-joined.joined (sym c.rows_apart.ensures ∙ c.if-rows_apart.true) c.in_ok-joined.ensures

pub returns-clause-refused : goal.returns-clause-refused
returns-clause-refused c = joined-told c.args.around.now.world.now.datatype_names (env_in c.args.around.now.scope.cons).known c.args.left.now c.args.right.now c.rows_meet.result (sym c.rows_apart.ensures ∙ c.if-rows_apart.false) c.rows_meet.ensures
