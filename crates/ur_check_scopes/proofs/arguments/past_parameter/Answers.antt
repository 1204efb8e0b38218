use Rattle.std.proofs.Common.{refl, sym, subst}
use Rattle.ur_check_scopes.specs.Views.{env_in}
use Rattle.ur_check_scopes.proofs.Exits.{ok-along, refused-along, refuses}
use Rattle.ur_check_scopes.specs.Arguments.{IsPast, BreaksKind, BreaksParam, kind_breaks}
use Rattle.ur_check_scopes.proofs.arguments.past_parameter.Goals as goal

pub returns-in-Kinded-clause-ok : goal.returns-in-Kinded-clause-ok
returns-in-Kinded-clause-ok c = ok-along c.past_kind.result (λ h p. subst (λ z. IsPast (env_in c.args.around.now.scope.cons) c.args.given z h) (sym c.in-Kinded.is) p) c.past_kind.ensures.ok

pub returns-in-Kinded-clause-refused : goal.returns-in-Kinded-clause-refused
returns-in-Kinded-clause-refused c =
    let env = env_in c.args.around.now.scope.cons in
    refused-along c.past_kind.result
    (refuses c.args.around.now.world.now.datatype_names (BreaksKind env c.args.given c.in-Kinded.kind) (BreaksParam env c.args.given c.args.con.now)
    (λ f b. subst (λ z. BreaksParam env c.args.given z f) (sym c.in-Kinded.is) (kind_breaks b)))
    c.past_kind.ensures.refused

pub returns-in-Apart-clause-ok : goal.returns-in-Apart-clause-ok
returns-in-Apart-clause-ok c = subst (λ z. IsPast (env_in c.args.around.now.scope.cons) c.args.given z c.args.given) (sym c.in-Apart.is) refl
