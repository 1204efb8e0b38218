use Rattle.std.proofs.Common.{refl, sym, ◌∙◌, length}
use Rattle.std.proofs.lemmas.Option.{slice_get_read, slice_get_past}
use Rattle.ur_typed_rules.proofs.Options.{some_none}
use Rattle.ur_typed_rules.specs.Arguments.{BreaksLambdaParam}
use Rattle.ur_check_scopes.specs.Params.{BreaksAt, breaks_local}
use Rattle.ur_check_scopes.specs.Views.{env_in}
use Rattle.ur_check_scopes.proofs.Exits.{ok-along, refused-along, refuses}
use Rattle.ur_check_scopes.proofs.ArgumentsJudging.{may-be-there}
use Rattle.ur_check_scopes.proofs.params.is_param_at.Goals as goal

pub returns-then-at-count-clause-ok : goal.returns-then-at-count-clause-ok
returns-then-at-count-clause-ok c =
    ok-along c.lambda_is_param.result
    (λ u h. may-be-there (env_in c.args.around.now.scope.cons) c.args.param.now c.args.locals.now c.args.at c.index-locals-at.result (slice_get_read c.args.locals.now (length c.args.locals.now) c.args.at c.index-locals-at.result refl c.if-at-count.true c.index-locals-at.is) h)
    c.lambda_is_param.ensures.ok

pub returns-then-at-count-clause-refused : goal.returns-then-at-count-clause-refused
returns-then-at-count-clause-refused c =
    let env = env_in c.args.around.now.scope.cons in
    refused-along c.lambda_is_param.result
    (refuses c.args.around.now.world.now.datatype_names (BreaksLambdaParam env c.args.param.now c.index-locals-at.result.of) (BreaksAt env c.args.param.now c.args.locals.now c.args.at)
    (λ f b. breaks_local c.index-locals-at.result (slice_get_read c.args.locals.now (length c.args.locals.now) c.args.at c.index-locals-at.result refl c.if-at-count.true c.index-locals-at.is) b))
    c.lambda_is_param.ensures.refused

pub returns-clause-ok : goal.returns-clause-ok
returns-clause-ok c = λ l e. absurd (some_none (sym e ∙ slice_get_past c.args.locals.now c.args.at c.if-at-count.false))
