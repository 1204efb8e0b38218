use Rattle.std.proofs.Common.{List, All, sym, subst}
use Rattle.std.proofs.lemmas.List.{take_all}
use Rattle.std.proofs.lemmas.List.Elements.{All-more}
use Rattle.ur_effects.specs.declared.act.Act.{Act}
use Rattle.ur_effects.specs.Acts.{IsCall}
use Rattle.ur_effects.proofs.chain.first_write.Goals as goal

pub loop-act-preserved : goal.loop-act-preserved
loop-act-preserved c =
    All-more IsCall c.args.acts.now c.loop-act.act-index _ c.loop-act-test.true c.loop-act.invariant (subst (λ (a : Act). IsCall a) (sym c.in-Calls.is) tt)

pub returns-clause-none : goal.returns-clause-none
returns-clause-none c =
    λ none. subst (λ (acts : List Act). All IsCall acts) (take_all c.loop-act.act-index c.args.acts.now c.loop-act-test.false) c.loop-act.invariant
