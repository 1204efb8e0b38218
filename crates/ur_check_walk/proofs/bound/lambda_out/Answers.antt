use Rattle.std.proofs.Common.{sym, ◌∙◌}
use Rattle.ur_check_walk.proofs.Lambdas.{arrow-told}
use Rattle.ur_check_walk.proofs.bound.lambda_out.Goals as goal

pub returns-then-holds_arrow-clause-refused : goal.returns-then-holds_arrow-clause-refused
returns-then-holds_arrow-clause-refused c = arrow-told c.args.around.now.world.now.datatype_names c.args.out.of c.curried.result (sym c.holds_arrow.ensures ∙ c.if-holds_arrow.true) c.curried.ensures
