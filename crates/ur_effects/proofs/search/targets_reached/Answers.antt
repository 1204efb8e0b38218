use Rattle.std.proofs.Common.{◌≡◌, length, Some, slice_get, List, ap, sym, ◌∙◌, refl, subst, arith}
use Rattle.std.proofs.lemmas.Option.{slice_get_read}
use Rattle.ur_tags.specs.declared.routes.Route.{Route}
use Rattle.ur_effects.specs.Search.{Search}
use Rattle.ur_effects.proofs.Routes.{RouteStep, nothing_is, route_step, all_targets}
use Rattle.ur_effects.proofs.search.targets_reached.Goals as goal

pub loop-number-init : goal.loop-number-init
loop-number-init c = record {
  search = nothing_is c.args.code.now c.in_ok-search.search (c.in_ok-search.ensures.length ∙ c.len.ensures) c.in_ok-search.ensures.unseen c.in_ok-search.ensures.found;
  targets = λ f t lt f_in. absurd (omega (arith, lt));
}

pub loop-number-preserved : goal.loop-number-preserved
loop-number-preserved c =
    let routes = c.as_slice-routes.result.now in
    let route = c.index-routes-number.result in
    let is_route = subst (λ (xs : List Route). slice_get xs c.loop-number.number ≡ Some route) c.as_slice-routes.ensures
    (slice_get_read routes (length routes) c.loop-number.number route refl c.loop-number-test.true c.index-routes-number.is) in
    let one = route_step c.args.code.now c.loop-number.search c.loop-number.number route c.target_at-target.result is_route (sym c.target_at-target.ensures)
    c.loop-number.invariant.search c.loop-number.invariant.targets in
    let next = subst (λ (t : Search). RouteStep c.args.code.now c.loop-number.search t c.loop-number.number) (sym c.in_ok-search-2.ensures) one in
    record { search = next.search; targets = next.targets }

pub returns-clause-targets : goal.returns-clause-targets
returns-clause-targets c =
    let same = ap length c.as_slice-routes.ensures in
    all_targets c.args.code.now c.loop-number.search c.loop-number.number (omega (arith, same, c.loop-number-test.false, c.loop-number.auto.number-end)) c.loop-number.invariant.targets
