use Rattle.std.proofs.Common.{sym, subst}
use Rattle.ur_tree.specs.declared.typed.ConParam.TheVariants as con_param
use Rattle.ur_check_scopes.specs.Views.{env_in}
use Rattle.ur_check_scopes.proofs.Exits.{ok-along, refused-along, refuses}
use Rattle.ur_check_scopes.specs.Arguments.{IsMet, BreaksMet}
use Rattle.ur_check_scopes.proofs.arguments.is_met.Goals as goal

pub returns-in-Kinded-clause-ok : goal.returns-in-Kinded-clause-ok
returns-in-Kinded-clause-ok c = subst (IsMet (env_in c.args.around.now.scope.cons).known c.args.args.now) (sym c.in-Kinded.is) tt

pub returns-in-Apart-clause-ok : goal.returns-in-Apart-clause-ok
returns-in-Apart-clause-ok c = ok-along c.are_apart.result (λ u p. subst (IsMet (env_in c.args.around.now.scope.cons).known c.args.args.now) (sym c.in-Apart.is) p) c.are_apart.ensures.ok

pub returns-in-Apart-clause-refused : goal.returns-in-Apart-clause-refused
returns-in-Apart-clause-refused c =
    let known = (env_in c.args.around.now.scope.cons).known in
    refused-along c.are_apart.result
    (refuses c.args.around.now.world.now.datatype_names (BreaksMet known c.args.args.now (con_param.Apart c.in-Apart.left c.in-Apart.right)) (BreaksMet known c.args.args.now c.args.con.now)
    (λ f b. subst (λ z. BreaksMet known c.args.args.now z f) (sym c.in-Apart.is) b))
    c.are_apart.ensures.refused
