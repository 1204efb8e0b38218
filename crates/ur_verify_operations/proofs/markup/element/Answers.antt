-- An element in its place.
use Rattle.std.proofs.Common.{sym, ◌∙◌}
use Rattle.ur_verify_operations.proofs.Replies.{refused_exit, answers_by}
use Rattle.ur_verify_operations.proofs.Table.{element_to_flow, flow_to_element, element_to_form, element_to_own, form_to_element, own_to_element}
use Rattle.ur_verify_operations.proofs.markup.element.Goals as goal

pub returns-in_err-form_of-in-AroundForm-clause-fits : goal.returns-in_err-form_of-in-AroundForm-clause-fits
returns-in_err-form_of-in-AroundForm-clause-fits c =
    refused_exit c.from_residual.result c.in_err-form_of-in-AroundForm.field-0.0 c.from_residual.ensures.1
    (λ h. element_to_form c.args.tag c.args.ts.now h.0 (sym c.place_of.ensures ∙ c.in-AroundForm.is) h.1) c.in_err-form_of-in-AroundForm.ensures.fits

pub returns-in_err-makes_up-in-Own-clause-fits : goal.returns-in_err-makes_up-in-Own-clause-fits
returns-in_err-makes_up-in-Own-clause-fits c =
    refused_exit c.from_residual-in_err-makes_up-in-Own.result c.in_err-makes_up-in-Own.field-0.0 c.from_residual-in_err-makes_up-in-Own.ensures.1
    (λ h. (tt, element_to_own c.args.tag c.args.ts.now c.in-Own.of c.in-Own.within h.0 (sym c.place_of.ensures ∙ c.in-Own.is) h.1)) c.in_err-makes_up-in-Own.ensures.fits

pub returns-in_ok-form_of-in-AroundForm-clause-fits : goal.returns-in_ok-form_of-in-AroundForm-clause-fits
returns-in_ok-form_of-in-AroundForm-clause-fits c =
    form_to_element c.args.tag c.args.ts.now c.in_ok-form_of-in-AroundForm.field-0 (sym c.place_of.ensures ∙ c.in-AroundForm.is) c.in_ok-form_of-in-AroundForm.ensures.fits

pub returns-in_ok-makes_up-in-Own-clause-fits : goal.returns-in_ok-makes_up-in-Own-clause-fits
returns-in_ok-makes_up-in-Own-clause-fits c =
    own_to_element c.args.tag c.args.ts.now c.in-Own.of c.in-Own.within (sym c.place_of.ensures ∙ c.in-Own.is) c.in_ok-makes_up-in-Own.ensures.fits

pub returns-in-InFlow-clause-fits : goal.returns-in-InFlow-clause-fits
returns-in-InFlow-clause-fits c =
    answers_by c.holding.result (λ r q. flow_to_element c.args.tag c.args.ts.now r (sym c.place_of.ensures ∙ c.in-InFlow.is) q)
    (λ r q. element_to_flow c.args.tag c.args.ts.now r (sym c.place_of.ensures ∙ c.in-InFlow.is) q) c.holding.ensures.fits
