-- A link to a route.
use Rattle.std.proofs.Common.{rules, List, drop, sym, ap, subst, ◌∙◌}
use Rattle.std.specs.Option.{option_copied}
use Rattle.ur_values.specs.declared.types.ValueType.{ValueType}
use Rattle.ur_terms.specs.declared.term.Op.TheVariants as op
use Rattle.ur_terms.specs.Types.{Holds}
use Rattle.ur_code.specs.Fits.{signature, route_type}
use Rattle.ur_verify_operations.specs.Answering.{Answers, Says}
use Rattle.ur_verify_operations.proofs.Declared.{mapped_at, link_of, link_at}
use Rattle.ur_verify_operations.specs.Misfits as misfit
use Rattle.ur_verify_operations.specs.Misfits.{OperationMisfit, UnlikeFlow}
use Rattle.ur_verify_operations.proofs.Covering.{not_so}
use Rattle.ur_verify_operations.proofs.Told.{says_by}
use Rattle.ur_verify_operations.proofs.deeds.link.Goals as goal

pub returns-clause-fits : goal.returns-clause-fits
returns-clause-fits c =
    link_at (signature c.args.code.now) c.args.route c.args.args c.args.ts.now (route_type c.in-Some.target.now) c.holding.result
    (mapped_at route_type c.args.code.now.handlers.routes c.args.route c.in-Some.target.now (sym c.get.ensures.value ∙ ap option_copied c.in-Some.is))
    (sym c.answers_get.ensures ∙ c.if-not-answers_get.false)
    (sym c.front.ensures ∙ c.same_types.ensures.0 c.if-not-same_types.false ∙ c.as_slice.ensures ∙ c.in_ok-types.ensures)
    (subst (λ (us : List ValueType). Answers (Holds us) c.holding.result) c.behind.ensures c.holding.ensures.fits)

pub returns-then-not-answers_get-clause-told : goal.returns-then-not-answers_get-clause-told
returns-then-not-answers_get-clause-told c =
    misfit.link_no_get (route_type c.in-Some.target.now)
    (mapped_at route_type c.args.code.now.handlers.routes c.args.route c.in-Some.target.now (sym c.get.ensures.value ∙ ap option_copied c.in-Some.is))
    (sym c.answers_get.ensures ∙ c.if-not-answers_get.true) (search rules)

pub returns-then-not-same_types-clause-fits : goal.returns-then-not-same_types-clause-fits
returns-then-not-same_types-clause-fits c =
    λ k. not_so _ c.same_types.ensures c.if-not-same_types.true
    (c.front.ensures
    ∙ (link_of (signature c.args.code.now) c.args.route c.args.args c.args.ts.now k.0 (route_type c.in-Some.target.now)
    (mapped_at route_type c.args.code.now.handlers.routes c.args.route c.in-Some.target.now (sym c.get.ensures.value ∙ ap option_copied c.in-Some.is)) k.1).1
    ∙ sym (c.as_slice.ensures ∙ c.in_ok-types.ensures))

pub returns-then-not-same_types-clause-told : goal.returns-then-not-same_types-clause-told
returns-then-not-same_types-clause-told c =
    misfit.link_of (route_type c.in-Some.target.now)
    (mapped_at route_type c.args.code.now.handlers.routes c.args.route c.in-Some.target.now (sym c.get.ensures.value ∙ ap option_copied c.in-Some.is))
    (λ e. not_so _ c.same_types.ensures c.if-not-same_types.true (c.front.ensures ∙ e ∙ sym (c.as_slice.ensures ∙ c.in_ok-types.ensures))) (search rules)

pub returns-clause-told : goal.returns-clause-told
returns-clause-told c =
    says_by {M = OperationMisfit (signature c.args.code.now) (op.Link c.args.route c.args.args) c.args.ts.now} {N = UnlikeFlow c.args.code.now.names (drop c.args.args c.args.ts.now)} c.holding.result
    (λ said k. misfit.link_around k) (subst (λ (us : List ValueType). Says (UnlikeFlow c.args.code.now.names us) c.holding.result) c.behind.ensures c.holding.ensures.told)
