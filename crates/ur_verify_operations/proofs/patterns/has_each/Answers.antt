-- A branch for each constructor.
use Rattle.std.proofs.Common.{ℕ, List, Option, refl, sym, ap, subst, ◌∙◌}
use Rattle.ur_values.specs.declared.types.ValueType.{ValueType}
use Rattle.ur_verify_operations.specs.Wanting.{patterns_in, HasEach}
use Rattle.ur_verify_operations.proofs.Covering.{never, not_so, slot_at, each_has, each_other, each_end}
use Rattle.ur_verify_operations.proofs.patterns.has_each.Goals as goal
use Rattle.ur_verify_operations.proofs.patterns.has_each.Goals.{else-variants-i-via-then-variants-i+else-not-has, else-variants-i-via-else-variants-i}

pub returns-then-not-has : goal.returns-then-not-has
returns-then-not-has c =
    never (λ all. not_so _ c.has.ensures c.if-not-has.true
    (all c.loop-i.i c.index-variants-i.result.1
    (slot_at c.args.code.now.variants c.as_slice-variants.result.now c.loop-i.i c.args.datatype c.index-variants-i.result c.as_slice-variants.ensures c.loop-i-test.true c.index-variants-i.is
    (ap (λ z. z.0) c.index-variants-i.is ∙ c.if-variants-i.true))))

pub loop-i-preserved : goal.loop-i-preserved
loop-i-preserved c =
    let vs = c.as_slice-variants.result.now in
    let ps = patterns_in c.args.branches.now in
    elim c.else-variants-i.branch [
      | else-variants-i-via-then-variants-i+else-not-has w ↦ each_has vs ps c.args.datatype c.loop-i.i c.loop-i.invariant (w.has.ensures.0 w.if-not-has.false)
      | else-variants-i-via-else-variants-i w ↦ each_other vs ps c.args.datatype c.loop-i.i c.index-variants-i.result c.index-variants-i.is
          (λ e. w.if-variants-i.false (sym (ap (λ z. z.0) c.index-variants-i.is) ∙ e)) c.loop-i.invariant
    ]

pub returns : goal.returns
returns c =
    let ps = patterns_in c.args.branches.now in
    let all = subst (λ (vs : List (ℕ × Option ValueType)). HasEach vs ps c.args.datatype) c.as_slice-variants.ensures
    (each_end c.as_slice-variants.result.now ps c.args.datatype c.loop-i.i c.loop-i-test.false c.loop-i.invariant) in
    ((λ q. all), (λ h. refl))
