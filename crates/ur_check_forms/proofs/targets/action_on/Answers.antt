use Rattle.std.proofs.Common.{sym, ◌∙◌, Some}
use Rattle.std.specs.Prelude.{codes}
use Rattle.std.proofs.lemmas.List.{nil_from_length}
use Rattle.ur_check_scopes.proofs.Exits.{ok-along, refused-along, refused-exit, refuses}
use Rattle.ur_check_forms.specs.Targets.{IsNoPage, BreaksAction}
use Rattle.ur_check_forms.proofs.Aiming.{no-page-acting, far-acting, action-made, no-form-told}
use Rattle.ur_check_forms.proofs.targets.action_on.Goals as goal

pub returns-in_err-head-clause-refused : goal.returns-in_err-head-clause-refused
returns-in_err-head-clause-refused c =
    let names = c.args.around.now.world.now.datatype_names in
    refused-exit c.from_residual.result c.in_err-head.field-0.0 c.from_residual.ensures.1
    (λ r h w s stands. refuses names (IsNoPage w.declared c.args.number (codes "an action")) (BreaksAction w.declared (Some c.args.number)) (no-page-acting w.declared c.args.number) r (h w s stands)) c.in_err-head.ensures.refused

pub returns-in-Some-clause-number : goal.returns-in-Some-clause-number
returns-in-Some-clause-number c = ok-along c.acting.result (λ t h. h.number) c.acting.ensures.target

pub returns-in-Some-clause-target : goal.returns-in-Some-clause-target
returns-in-Some-clause-target c =
    ok-along c.acting.result
    (λ t h. action-made c.args.around.now c.args.number c.in_ok-head.head.now.params c.in-Some.front.now c.in-Some.last.now t c.in_ok-head.ensures.page (sym c.as_slice.ensures ∙ c.in-Some.ensures.cases.0) h.number h.args h.wanted h.linkable) c.acting.ensures.target

pub returns-in-Some-clause-refused : goal.returns-in-Some-clause-refused
returns-in-Some-clause-refused c =
    refused-along c.acting.result
    (λ r h. far-acting c.args.around.now c.args.number c.in_ok-head.head.now.params c.in-Some.front.now c.in-Some.last.now r c.in_ok-head.ensures.page (sym c.as_slice.ensures ∙ c.in-Some.ensures.cases.0) h) c.acting.ensures.refused

pub returns-in-None-clause-refused : goal.returns-in-None-clause-refused
returns-in-None-clause-refused c =
    no-form-told c.args.around.now c.args.number c.in_ok-head.head.now.params c.no_page.result c.in_ok-head.ensures.page (sym c.as_slice.ensures ∙ nil_from_length c.as_slice.result.now c.in-None.ensures.cases) c.no_page.ensures
