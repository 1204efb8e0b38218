use Rattle.std.proofs.Common.{sym, subst}
use Rattle.ur_typed_rules.specs.Arguments.{BreaksParameter, BreaksWritten, breaks_written}
use Rattle.ur_check_scopes.specs.Params.{IsWrittenType}
use Rattle.ur_check_scopes.specs.Views.{env_in}
use Rattle.ur_check_scopes.proofs.Exits.{ok-along, refused-along, refuses}
use Rattle.ur_check_scopes.proofs.Writing.{unit-right}
use Rattle.ur_check_scopes.proofs.params.written_is_param.Goals as goal

pub returns-in-Value-clause-ok : goal.returns-in-Value-clause-ok
returns-in-Value-clause-ok c = ok-along c.is_param.result (λ u h w. h) c.is_param.ensures.ok

pub returns-in-Value-clause-refused : goal.returns-in-Value-clause-refused
returns-in-Value-clause-refused c =
    let env = env_in c.args.around.now.scope.cons in
    refused-along c.is_param.result
    (refuses c.args.around.now.world.now.datatype_names (BreaksParameter env c.in-Value.con c.args.of.now) (BreaksWritten env c.args.param.now c.args.of.now)
    (λ f b. subst (λ z. BreaksWritten env z c.args.of.now f) (sym c.in-Value.is) (breaks_written b)))
    c.is_param.ensures.refused

pub returns-in-Unit-clause-ok : goal.returns-in-Unit-clause-ok
returns-in-Unit-clause-ok c = λ h. unit-right (env_in c.args.around.now.scope.cons) c.args.of.now (subst (λ z. IsWrittenType z c.args.of.now) c.in-Unit.is h)
