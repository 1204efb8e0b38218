use Rattle.std.proofs.Common.{sym, subst}
use Rattle.ur_typed_rules.specs.Arguments.{BreaksApart, BreaksRowApart, BreaksCon}
use Rattle.ur_typed_rules.specs.Arguments as rules
use Rattle.ur_check_scopes.specs.Views.{env_in}
use Rattle.ur_check_scopes.proofs.Exits.{refused-along, refuses}
use Rattle.ur_check_scopes.proofs.arguments.con_apart.Goals as goal

pub returns-in-Type-clause-refused : goal.returns-in-Type-clause-refused
returns-in-Type-clause-refused c =
    let known = (env_in c.args.around.now.scope.cons).known in
    refused-along c.type_apart.result
    (refuses c.args.around.now.world.now.datatype_names (BreaksApart known c.args.con.now c.in-Type.t) (BreaksCon known c.args.con.now c.args.of.now)
    (λ f b. subst (λ z. BreaksCon known c.args.con.now z f) (sym c.in-Type.is) (rules.of_type b)))
    c.type_apart.ensures.refused

pub returns-in-Row-clause-refused : goal.returns-in-Row-clause-refused
returns-in-Row-clause-refused c =
    let known = (env_in c.args.around.now.scope.cons).known in
    refused-along c.row_apart.result
    (refuses c.args.around.now.world.now.datatype_names (BreaksRowApart known c.args.con.now c.in-Row.r) (BreaksCon known c.args.con.now c.args.of.now)
    (λ f b. subst (λ z. BreaksCon known c.args.con.now z f) (sym c.in-Row.is) (rules.of_row b)))
    c.row_apart.ensures.refused
