use Rattle.std.proofs.Common.{◌≡◌, sym, ap, ◌∙◌, Some}
use Rattle.std.proofs.lemmas.Option.{slice_get-get_or}
use Rattle.std.specs.Prelude.{slice_get}
use Rattle.ur_check_heads.proofs.Targeting.{none-added, added-targets, added-methods, added-fit}
use Rattle.ur_check_heads.proofs.routes.add_route.Goals as goal

pub returns-then-not-has_method-clause-targets : goal.returns-then-not-has_method-clause-targets
returns-then-not-has_method-clause-targets c = none-added c.args.aim c.args.at _ (sym c.has_method.ensures ∙ c.if-not-has_method.true)

pub returns-then-not-has_method-clause-methods : goal.returns-then-not-has_method-clause-methods
returns-then-not-has_method-clause-methods c = none-added c.args.aim c.args.aim _ (sym c.has_method.ensures ∙ c.if-not-has_method.true)

pub returns-in_ok-push_route-in-Some-clause-targets : goal.returns-in_ok-push_route-in-Some-clause-targets
returns-in_ok-push_route-in-Some-clause-targets c =
    added-targets c.args.routes.now c.push_route.new.routes c.in_ok-route-in-Some.route c.in_ok-target-in-Some.target c.args.at c.args.aim c.has_method.result c.in_ok-push_route-in-Some.ensures c.in_ok-target-in-Some.ensures c.has_method.ensures c.if-not-has_method.false

pub returns-in_ok-push_route-in-Some-clause-methods : goal.returns-in_ok-push_route-in-Some-clause-methods
returns-in_ok-push_route-in-Some-clause-methods c =
    added-methods c.args.routes.now c.push_route.new.routes c.in_ok-route-in-Some.route c.in_ok-target-in-Some.target c.args.aim c.has_method.result c.in_ok-push_route-in-Some.ensures c.in_ok-route-in-Some.ensures.get c.in_ok-route-in-Some.ensures.post c.has_method.ensures
    c.if-not-has_method.false

pub returns-in_ok-push_route-in-Some-clause-fit : goal.returns-in_ok-push_route-in-Some-clause-fit
returns-in_ok-push_route-in-Some-clause-fit c =
    let row = c.in-Some.ensures.lookup in
    let there : slice_get c.args.functions.now c.args.at ≡ Some c.in-Some.function.now = slice_get-get_or c.args.functions.now c.args.at c.in-Some.function.now row.3.0 ∙ ap (λ f. Some f) (sym row.1) in
    added-fit c.args.modules.now c.args.names.now c.args.functions.now c.args.routes.now c.push_route.new.routes c.in_ok-route-in-Some.route c.in_ok-target-in-Some.target c.args.at c.in-Some.function.now c.in_ok-push_route-in-Some.ensures c.in_ok-target-in-Some.ensures there
    c.in_ok-route-in-Some.ensures.is
