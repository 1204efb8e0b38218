-- Types that are all this one.
use Rattle.std.proofs.Common.{◌≡◌, List, refl, sym, subst, ◌∙◌}
use Rattle.std.specs.Prelude.{All}
use Rattle.std.proofs.lemmas.List.{take_all}
use Rattle.std.proofs.lemmas.List.Elements.{All-more}
use Rattle.ur_values.specs.declared.types.ValueType.{ValueType}
use Rattle.ur_verify_operations.proofs.markup.all_are.Goals as goal

pub loop-t-preserved : goal.loop-t-preserved
loop-t-preserved c =
    All-more (λ (x : ValueType). x ≡ c.args.of.now) c.args.ts.now c.loop-t.t-index c.t-item.result c.loop-t-test.true c.loop-t.invariant
    (sym c.t-item.is ∙ c.same_type.ensures.0 c.if-not-same_type.false)

pub returns : goal.returns
returns c =
    ((λ q. subst (λ (xs : List ValueType). All (λ x. x ≡ c.args.of.now) xs) (take_all c.loop-t.t-index c.args.ts.now c.loop-t-test.false) c.loop-t.invariant), (λ a. refl))
