use Rattle.std.proofs.Common.{sym, subst, Some}
use Rattle.ur_check_scopes.proofs.Exits.{refused-along, refuses}
use Rattle.ur_check_forms.specs.Targets.{BreaksAction}
use Rattle.ur_check_forms.proofs.Aiming.{nothing-acting}
use Rattle.ur_check_forms.proofs.targets.action_types.Goals as goal

pub returns-in-Some-clause-refused : goal.returns-in-Some-clause-refused
returns-in-Some-clause-refused c =
    let names = c.args.around.now.world.now.datatype_names in
    refused-along c.action_on.result
    (λ r h w s stands. refuses names (BreaksAction w.declared (Some c.in-Some.number)) (BreaksAction w.declared c.args.found) (λ f b. subst (λ z. BreaksAction w.declared z f) (sym c.in-Some.is) b) r (h w s stands)) c.action_on.ensures.refused

pub returns-in-None-clause-refused : goal.returns-in-None-clause-refused
returns-in-None-clause-refused c = nothing-acting c.args.around.now c.args.found c.no_page.result c.in-None.is c.no_page.ensures
