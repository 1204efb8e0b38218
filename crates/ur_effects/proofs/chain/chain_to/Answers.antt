use Rattle.std.proofs.Common.{ℕ, ◌<◌, List, Option, Some, sym, subst}
use Rattle.std.proofs.lemmas.Option.{slice_get_within}
use Rattle.ur_effects.proofs.Chains.{ChainBack, back_start, back_more, places_left, fewer_left}
use Rattle.ur_effects.proofs.chain.chain_to.Goals as goal

pub loop-at-init : goal.loop-at-init
loop-at-init c =
    subst (λ (back : List ℕ). ChainBack c.args.code.now c.args.found.now c.args.write (Some c.args.place) back) (sym c.new-back.ensures)
    (back_start c.args.code.now c.args.found.now c.args.write c.args.place c.requires.writes)

pub found_at-step-requires : goal.found_at-step-requires
found_at-step-requires c =
    let back = subst (λ (o : Option ℕ). ChainBack c.args.code.now c.args.found.now c.args.write o c.loop-at.back) c.in-Some.is c.loop-at.invariant in
    slice_get_within c.args.found.now c.in-Some.here back.0 back.1

pub loop-at-smaller : goal.loop-at-smaller
loop-at-smaller c =
    subst (λ (o : Option ℕ). places_left c.found_at-step.result.caller < places_left o) (sym c.in-Some.is)
    (fewer_left c.args.code.now c.args.found.now c.in-Some.here c.found_at-step.result c.requires.led c.found_at-step.ensures)

pub loop-at-preserved : goal.loop-at-preserved
loop-at-preserved c =
    subst (λ (back : List ℕ). ChainBack c.args.code.now c.args.found.now c.args.write c.found_at-step.result.caller back) (sym c.in_ok-push.ensures.ok)
    (back_more c.args.code.now c.args.found.now c.args.write c.in-Some.here c.found_at-step.result c.loop-at.back c.requires.led c.found_at-step.ensures
    (subst (λ (o : Option ℕ). ChainBack c.args.code.now c.args.found.now c.args.write o c.loop-at.back) c.in-Some.is c.loop-at.invariant))
