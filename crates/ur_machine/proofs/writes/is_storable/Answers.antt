use Rattle.std.proofs.Common.{All, refl, subst, arith}
use Rattle.std.proofs.lemmas.List.{take_all}
use Rattle.std.proofs.lemmas.List.Elements.{All-more}
use Rattle.ur_values.specs.Store.{IsStorable}
use Rattle.ur_machine.proofs.writes.is_storable.Goals as goal

pub loop-value-preserved : goal.loop-value-preserved
loop-value-preserved c =
    let few : IsStorable c.value-item.result = omega arith in
    All-more IsStorable c.args.row.now c.loop-value.value-index c.value-item.result c.loop-value-test.true c.loop-value.invariant (subst IsStorable c.value-item.is few)

pub returns : goal.returns
returns c = ((λ e. subst (All IsStorable) (take_all c.loop-value.value-index c.args.row.now c.loop-value-test.false) c.loop-value.invariant), (λ a. refl))
