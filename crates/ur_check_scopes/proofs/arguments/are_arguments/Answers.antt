use Rattle.std.proofs.Common.{map}
use Rattle.ur_check_scopes.specs.Views.{env_in}
use Rattle.ur_check_scopes.proofs.Exits.{refused-exit, refused-along, refuses, ok-along}
use Rattle.ur_check_scopes.specs.Arguments.{BreaksHaving, BreaksObligations}
use Rattle.ur_typed_rules.specs.Arguments.{BreaksGiven}
use Rattle.ur_check_scopes.proofs.Giving.{given-having, given-obligation, all-arguments}
use Rattle.ur_check_scopes.proofs.arguments.are_arguments.Goals as goal

pub returns-clause-ok : goal.returns-clause-ok
returns-clause-ok c = ok-along c.obligations_met.result (λ u h. all-arguments (env_in c.args.around.now.scope.cons) c.args.args.now c.args.cons.now c.in_ok-have_kinds.ensures.ok h) c.obligations_met.ensures.ok

pub returns-clause-refused : goal.returns-clause-refused
returns-clause-refused c =
    let env = env_in c.args.around.now.scope.cons in
    refused-along c.obligations_met.result
    (refuses c.args.around.now.world.now.datatype_names (BreaksObligations env.known c.args.args.now c.args.cons.now) (BreaksGiven env (map (λ x. x.now) c.args.given.now) c.args.args.now c.args.cons.now)
    (given-obligation env (map (λ x. x.now) c.args.given.now) c.args.args.now c.args.cons.now))
    c.obligations_met.ensures.refused

pub returns-in_err-have_kinds-clause-refused : goal.returns-in_err-have_kinds-clause-refused
returns-in_err-have_kinds-clause-refused c =
    let env = env_in c.args.around.now.scope.cons in
    refused-exit c.from_residual.result c.in_err-have_kinds.field-0.0 c.from_residual.ensures.1
    (refuses c.args.around.now.world.now.datatype_names (BreaksHaving env (record { written = c.args.given; args = c.args.args }) c.args.cons.now) (BreaksGiven env (map (λ x. x.now) c.args.given.now) c.args.args.now c.args.cons.now)
    (given-having env (record { written = c.args.given; args = c.args.args }) c.args.cons.now))
    c.in_err-have_kinds.ensures.refused
