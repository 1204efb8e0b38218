use Rattle.std.proofs.Common.{sym, ap, ◌∙◌, Some}
use Rattle.std.specs.Prelude.{codes}
use Rattle.ur_tree.specs.Typing.{are_linkable, types_of}
use Rattle.ur_check_scopes.proofs.Exits.{refused-exit, refuses}
use Rattle.ur_check_forms.specs.Targets.{IsNoPage, BreaksLink}
use Rattle.ur_check_forms.proofs.Aiming.{no-page-linked, far-linked}
use Rattle.ur_check_forms.proofs.targets.link_to.Goals as goal

pub returns-in_err-head-clause-refused : goal.returns-in_err-head-clause-refused
returns-in_err-head-clause-refused c =
    let names = c.args.around.now.world.now.datatype_names in
    refused-exit c.from_residual.result c.in_err-head.field-0.0 c.from_residual.ensures.1
    (λ r h w s stands. refuses names (IsNoPage w.declared c.args.number (codes "a link")) (BreaksLink w.declared (Some c.args.number)) (no-page-linked w.declared c.args.number) r (h w s stands)) c.in_err-head.ensures.refused

pub returns-then-not-are_linkable-clause-refused : goal.returns-then-not-are_linkable-clause-refused
returns-then-not-are_linkable-clause-refused c =
    far-linked c.args.around.now c.args.number (types_of c.in_ok-head.head.now.params) c.not_linkable.result c.in_ok-head.ensures.page
    (ap (λ z. are_linkable (types_of z)) (sym c.as_slice-params.ensures) ∙ sym c.are_linkable.ensures ∙ c.if-not-are_linkable.true) c.not_linkable.ensures
