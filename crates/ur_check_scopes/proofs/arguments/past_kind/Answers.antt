use Rattle.std.specs.Prelude.{codes}
use Rattle.std.proofs.Common.{ap, map}
use Rattle.ur_typed_rules.specs.Faults.{not_so}
use Rattle.ur_check_scopes.specs.Views.{env_in}
use Rattle.ur_check_scopes.proofs.Exits.{refused-exit, refuses, told}
use Rattle.ur_check_scopes.specs.Arguments.{BreaksArgument, BreaksKind, no_argument}
use Rattle.ur_check_scopes.proofs.Giving.{none-left, the-argument}
use Rattle.ur_check_scopes.proofs.arguments.past_kind.Goals as goal

pub returns-in_ok-is_argument-in-Some-split_first-clause-ok : goal.returns-in_ok-is_argument-in-Some-split_first-clause-ok
returns-in_ok-is_argument-in-Some-split_first-clause-ok c =
    (c.in-Some.of.now, c.in-Some-split_first.con.now, c.in-Some.ensures.cases.0, c.in-Some-split_first.ensures.cases.0, c.in_ok-is_argument-in-Some-split_first.ensures.ok)

pub returns-in_err-is_argument-in-Some-split_first-clause-refused : goal.returns-in_err-is_argument-in-Some-split_first-clause-refused
returns-in_err-is_argument-in-Some-split_first-clause-refused c =
    let env = env_in c.args.around.now.scope.cons in
    refused-exit c.from_residual.result c.in_err-is_argument-in-Some-split_first.field-0.0 c.from_residual.ensures.1
    (refuses c.args.around.now.world.now.datatype_names (BreaksArgument env c.in-Some-split_first.con.now.now c.in-Some.of.now c.args.kind.now) (BreaksKind env c.args.given c.args.kind.now)
    (the-argument env c.args.given c.in-Some.of.now c.in-Some.args.now c.in-Some-split_first.con.now.now (map (λ x. x.now) c.in-Some-split_first.written.now) c.args.kind.now c.in-Some.ensures.cases.0 (ap (map (λ x. x.now)) c.in-Some-split_first.ensures.cases.0)))
    c.in_err-is_argument-in-Some-split_first.ensures.refused

pub returns-in-None-clause-refused : goal.returns-in-None-clause-refused
returns-in-None-clause-refused c =
    told c.args.around.now.world.now.datatype_names (BreaksKind (env_in c.args.around.now.scope.cons) c.args.given c.args.kind.now) c.not_so.result
    (not_so (codes "too few constructor arguments") (codes "all arguments")) (no_argument (none-left c.args.given.args.now c.in-None.ensures.cases)) (c.not_so.ensures c.args.around.now.world.now.datatype_names)
