-- A submit button.
use Rattle.std.proofs.Common.{rules, List, take, sym, ap, subst, ◌∙◌}
use Rattle.std.specs.Option.{option_copied}
use Rattle.ur_values.specs.declared.value.FieldKind.TheVariants as kind
use Rattle.ur_values.specs.declared.types.ValueType.{ValueType}
use Rattle.ur_values.specs.declared.types.ValueType.TheVariants as ty
use Rattle.ur_values.specs.declared.types.TypeField.{TypeField}
use Rattle.ur_terms.specs.Types.{IsValueFor}
use Rattle.ur_code.specs.Fits.{signature, route_type}
use Rattle.ur_code.specs.RouteTypes.{route_params}
use Rattle.ur_verify_operations.proofs.Covering.{not_so}
use Rattle.ur_verify_operations.proofs.Declared.{mapped_at, submit_of, submit_fits, submits_as}
use Rattle.ur_verify_operations.specs.Misfits as misfit
use Rattle.ur_verify_operations.proofs.deeds.submit.Goals as goal

pub returns-then-not-submits-clause-fits : goal.returns-then-not-submits-clause-fits
returns-then-not-submits-clause-fits c =
    λ h. not_so _ c.submits.ensures c.if-not-submits.true
    (submits_as c.args.unit (take c.args.args c.args.ts.now) c.front.result.now (route_params c.in-Some.target.now) c.as_slice.result.now (sym c.front.ensures)
    (sym (c.as_slice.ensures ∙ c.in_ok-types.ensures))
    (submit_of (signature c.args.code.now) c.args.route c.args.args c.args.unit c.args.ts.now h.0 (route_type c.in-Some.target.now)
    (mapped_at route_type c.args.code.now.handlers.routes c.args.route c.in-Some.target.now (sym c.get.ensures.value ∙ ap option_copied c.in-Some.is)) h.1))

pub returns-clause-fits : goal.returns-clause-fits
returns-clause-fits c =
    submit_fits (signature c.args.code.now) c.args.route c.args.args c.args.unit c.args.ts.now _ (route_type c.in-Some.target.now)
    (mapped_at route_type c.args.code.now.handlers.routes c.args.route c.in-Some.target.now (sym c.get.ensures.value ∙ ap option_copied c.in-Some.is))
    (sym c.answers_post.ensures ∙ c.if-not-answers_post.false)
    (submits_as c.args.unit c.front.result.now (take c.args.args c.args.ts.now) c.as_slice.result.now (route_params c.in-Some.target.now) c.front.ensures
    (c.as_slice.ensures ∙ c.in_ok-types.ensures) (c.submits.ensures.0 c.if-not-submits.false))
    (subst (λ (us : List ValueType). IsValueFor kind.Textbox us) c.behind.ensures (c.is_value_for.ensures.0 c.if-not-is_value_for.false))
    (ap (λ (fs : List TypeField). ty.Form fs) c.new.ensures)

pub returns-then-not-answers_post-clause-told : goal.returns-then-not-answers_post-clause-told
returns-then-not-answers_post-clause-told c =
    misfit.submit_no_post (route_type c.in-Some.target.now)
    (mapped_at route_type c.args.code.now.handlers.routes c.args.route c.in-Some.target.now (sym c.get.ensures.value ∙ ap option_copied c.in-Some.is))
    (sym c.answers_post.ensures ∙ c.if-not-answers_post.true) (search rules)

pub returns-then-not-submits-clause-told : goal.returns-then-not-submits-clause-told
returns-then-not-submits-clause-told c =
    misfit.submit_of (route_type c.in-Some.target.now)
    (mapped_at route_type c.args.code.now.handlers.routes c.args.route c.in-Some.target.now (sym c.get.ensures.value ∙ ap option_copied c.in-Some.is))
    (λ k. not_so _ c.submits.ensures c.if-not-submits.true
    (submits_as c.args.unit (take c.args.args c.args.ts.now) c.front.result.now (route_params c.in-Some.target.now) c.as_slice.result.now (sym c.front.ensures)
    (sym (c.as_slice.ensures ∙ c.in_ok-types.ensures)) k)) (search rules)
