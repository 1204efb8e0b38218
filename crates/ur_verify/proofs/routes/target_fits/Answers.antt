-- The function takes the route's arguments and gives a page.
use Rattle.std.proofs.Common.{◌≡◌, ◌∙◌, true, [], sym, true≢false}
use Rattle.ur_code.specs.RouteTypes.{route_params}
use Rattle.ur_verify.proofs.Loops.{not_so}
use Rattle.ur_verify.specs.Misfits.{at_params, at_page}
use Rattle.ur_verify.proofs.Told.{first_as}
use Rattle.ur_verify.proofs.routes.target_fits.Goals.{else-route-via-then-route+else-not-is_empty, else-route-via-else-route}
use Rattle.ur_verify.proofs.routes.target_fits.Goals as goal

pub returns-clause-fits : goal.returns-clause-fits
returns-clause-fits c =
    let formless : c.args.route.now.get ≡ true → c.args.route.now.form ≡ [] = elim c.else-route.branch [
      | else-route-via-then-route+else-not-is_empty w ↦ (λ g. w.is_empty.ensures.0 w.if-not-is_empty.false)
      | else-route-via-else-route w ↦ (λ g. absurd (true≢false (sym g ∙ w.if-route.false)))
    ] in record {
      function = c.in-Some.function.now;
      is_function = sym c.in-Some.ensures.value;
      params = sym c.as_slice.ensures ∙ c.same_types.ensures.0 c.if-not-same_types.false ∙ c.as_slice-2.ensures ∙ c.in_ok-params.ensures;
      page = c.same_type.ensures.0 c.if-not-same_type.false;
      no_form = formless;
    }

pub returns-then-not-same_types-clause-told : goal.returns-then-not-same_types-clause-told
returns-then-not-same_types-clause-told c =
    at_params c.in-Some.function.now (sym c.in-Some.ensures.value) (
      (λ e. not_so _ c.same_types.ensures c.if-not-same_types.true (c.as_slice.ensures ∙ e ∙ sym (c.as_slice-2.ensures ∙ c.in_ok-params.ensures))),
      first_as c.args.code.now.names c.as_slice-then-not-same_types.result.now c.as_slice-then-not-same_types-2.result.now c.in-Some.function.now.params (route_params c.args.route.now) _
          c.as_slice-then-not-same_types.ensures (c.as_slice-then-not-same_types-2.ensures ∙ c.in_ok-params.ensures) c.in_ok-unlike_these.ensures,
    )

pub returns-then-not-same_type-clause-told : goal.returns-then-not-same_type-clause-told
returns-then-not-same_type-clause-told c =
    at_page c.in-Some.function.now (sym c.in-Some.ensures.value) (not_so _ c.same_type.ensures c.if-not-same_type.true) c.in_ok-mismatch.ensures
