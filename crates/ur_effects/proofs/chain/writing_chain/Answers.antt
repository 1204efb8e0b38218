use Rattle.std.proofs.Common.{◌≡◌, List, All, Contains, Some, slice_get, refl, sym, subst, arith}
use Rattle.ur_effects.specs.declared.act.Act.{Act}
use Rattle.ur_effects.specs.declared.act.Act.TheVariants as act
use Rattle.ur_effects.specs.Acts.{IsCall}
use Rattle.ur_effects.specs.Search.{Found, MakesWrite}
use Rattle.ur_effects.proofs.Searching.{makes_write, turn, never_writes}
use Rattle.ur_effects.proofs.chain.writing_chain.Goals as goal

pub chain_to-requires-clause-writes : goal.chain_to-requires-clause-writes
chain_to-requires-clause-writes c =
    subst (λ (found : List Found). MakesWrite c.args.code.now.functions (slice_get found c.loop-place.place) c.in-Some.write) (sym c.as_slice-in-Some.ensures)
    (makes_write c.args.code.now.functions c.loop-place.search.found c.loop-place.place c.found_at-step.result c.in_ok-acts.acts c.in-Some.write
    (subst (λ (found : List Found). slice_get found c.loop-place.place ≡ Some c.found_at-step.result) c.as_slice.ensures c.found_at-step.ensures)
    c.in_ok-acts.ensures
    (subst (λ (acts : List Act). Contains acts (act.Writes c.in-Some.write)) c.as_slice-in-loop-place.ensures c.in-Some.ensures.some))

pub loop-place-preserved : goal.loop-place-preserved
loop-place-preserved c =
    let next = turn c.args.code.now c.loop-place.search c.in_ok-search-in-None.search c.loop-place.place c.found_at-step.result c.in_ok-acts.acts
    (subst (λ (found : List Found). slice_get found c.loop-place.place ≡ Some c.found_at-step.result) c.as_slice.ensures c.found_at-step.ensures)
    c.in_ok-acts.ensures
    (subst (λ (acts : List Act). All IsCall acts) c.as_slice-in-loop-place.ensures (c.in-None.ensures.none refl))
    c.in_ok-search-in-None.ensures
    c.loop-place.invariant.search c.loop-place.invariant.targets c.loop-place.invariant.done in
    record { search = next.search; targets = next.targets; done = next.done }

pub returns : goal.returns
returns c =
    never_writes c.args.code.now c.loop-place.search c.loop-place.place c.loop-place.invariant.search c.loop-place.invariant.targets c.loop-place.invariant.done
    (let a = c.loop-place-test.false in let b = c.len.ensures in omega (arith, a, b))
