use Rattle.std.specs.Prelude.{codes}
use Rattle.std.proofs.Common.{sym, ◌∙◌}
use Rattle.ur_typed_rules.specs.Faults.{unkinded, not_so}
use Rattle.ur_typed_rules.specs.Arguments.{BreaksCon}
use Rattle.ur_check_scopes.specs.Views.{env_in}
use Rattle.ur_check_scopes.proofs.Exits.{refused-exit, refuses, told}
use Rattle.ur_check_scopes.specs.Arguments.{BreaksArgument, not_of_kind, rows_meet, not_plain}
use Rattle.ur_check_scopes.proofs.Giving.{con-false}
use Rattle.ur_check_scopes.proofs.arguments.is_argument.Goals as goal

pub returns-then-not-has_kind-clause-refused : goal.returns-then-not-has_kind-clause-refused
returns-then-not-has_kind-clause-refused c =
    told c.args.around.now.world.now.datatype_names (BreaksArgument (env_in c.args.around.now.scope.cons) c.args.con.now c.args.of.now c.args.kind.now) c.unkinded.result
    (unkinded (codes "another kind") (codes "the kind of the parameter")) (not_of_kind (sym c.in_ok-has_kind.ensures ∙ c.if-not-has_kind.true)) (c.unkinded.ensures c.args.around.now.world.now.datatype_names)

pub returns-in_err-con_apart-clause-refused : goal.returns-in_err-con_apart-clause-refused
returns-in_err-con_apart-clause-refused c =
    refused-exit c.from_residual-in_err-con_apart.result c.in_err-con_apart.field-0.0 c.from_residual-in_err-con_apart.ensures.1
    (refuses c.args.around.now.world.now.datatype_names (BreaksCon (env_in c.args.around.now.scope.cons).known c.args.con.now c.args.of.now) (BreaksArgument (env_in c.args.around.now.scope.cons) c.args.con.now c.args.of.now c.args.kind.now)
    (λ f b. rows_meet b (con-false (env_in c.args.around.now.scope.cons) c.args.con.now c.args.of.now f b)))
    c.in_err-con_apart.ensures.refused

pub returns-then-is_plain-clause-ok : goal.returns-then-is_plain-clause-ok
returns-then-is_plain-clause-ok c = (sym c.in_ok-has_kind.ensures ∙ c.if-not-has_kind.false, c.in_ok-con_apart.ensures.ok, sym c.is_plain.ensures ∙ c.if-is_plain.true)

pub returns-clause-refused : goal.returns-clause-refused
returns-clause-refused c =
    told c.args.around.now.world.now.datatype_names (BreaksArgument (env_in c.args.around.now.scope.cons) c.args.con.now c.args.of.now c.args.kind.now) c.not_so.result
    (not_so (codes "a constructor argument") (codes "no arrow and no transaction")) (not_plain (sym c.is_plain.ensures ∙ c.if-is_plain.false)) (c.not_so.ensures c.args.around.now.world.now.datatype_names)
