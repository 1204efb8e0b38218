use Rattle.std.proofs.Common.{sym, subst, ◌∙◌}
use Rattle.ur_check_scopes.proofs.Exits.{ok-along, refused-along}
use Rattle.ur_check_walk.specs.declared.targets.Aim.TheVariants as aim
use Rattle.ur_check_walk.specs.Aiming.{Aims}
use Rattle.ur_check_walk.proofs.Aiming.{aim-as}
use Rattle.ur_check_walk.proofs.targets.aimed.Goals as goal

pub returns-in-Link-clause-named : goal.returns-in-Link-clause-named
returns-in-Link-clause-named c = ok-along c.link_types.result (λ t h w s st. sym (c.in_ok-found.ensures w s st) ∙ h) c.link_types.ensures.number

pub returns-in-Link-clause-target : goal.returns-in-Link-clause-target
returns-in-Link-clause-target c = ok-along c.link_types.result (λ t h w s st. subst (λ z. Aims z w.declared t) (sym c.in-Link.is) (h w s st)) c.link_types.ensures.target

pub returns-in-Link-clause-refused : goal.returns-in-Link-clause-refused
returns-in-Link-clause-refused c =
    refused-along c.link_types.result (λ r h w s st. aim-as c.args.around.now.world.now.datatype_names w.declared c.args.aim c.in_ok-found.found _ r aim.Link c.in-Link.is (c.in_ok-found.ensures w s st) (h w s st)) c.link_types.ensures.refused

pub returns-in-Action-clause-named : goal.returns-in-Action-clause-named
returns-in-Action-clause-named c = ok-along c.action_types.result (λ t h w s st. sym (c.in_ok-found.ensures w s st) ∙ h) c.action_types.ensures.number

pub returns-in-Action-clause-target : goal.returns-in-Action-clause-target
returns-in-Action-clause-target c = ok-along c.action_types.result (λ t h w s st. subst (λ z. Aims z w.declared t) (sym c.in-Action.is) (h w s st)) c.action_types.ensures.target

pub returns-in-Action-clause-refused : goal.returns-in-Action-clause-refused
returns-in-Action-clause-refused c =
    refused-along c.action_types.result (λ r h w s st. aim-as c.args.around.now.world.now.datatype_names w.declared c.args.aim c.in_ok-found.found _ r aim.Action c.in-Action.is (c.in_ok-found.ensures w s st) (h w s st)) c.action_types.ensures.refused
