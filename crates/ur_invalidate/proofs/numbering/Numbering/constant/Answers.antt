use Rattle.std.proofs.Common.{[], ◌∷◌, ◌++◌, refl, ap, ◌∙◌}
use Rattle.ur_values.specs.declared.value.Value.{Value}
use Rattle.ur_invalidate.specs.declared.leaf.Leaf.TheVariants as leaf
use Rattle.ur_invalidate.specs.declared.numbering.Numbering.{Numbering}
use Rattle.ur_invalidate.proofs.Adds.{constant_adds}
use Rattle.ur_invalidate.proofs.Shapes.{constant_leaf_is}
use Rattle.ur_invalidate.proofs.numbering.Numbering.constant.Goals as goal

pub returns : goal.returns
returns c =
    let final : Numbering = record { leaves = c.place.new.self.leaves; closure = c.place.new.self.closure; constants = c.push.new.self } in
    constant_adds c.args.self.now c.place.new.self final (leaf.Constant c.in_ok-atom.field-0) c.in_ok-number.number.number c.in_ok-number.ensures c.args.value.now
    (constant_leaf_is c.in_ok-atom.field-0 c.args.value.now c.in_ok-atom.ensures) refl refl
    (c.in_ok-push.ensures.ok ∙ ap (λ (x : Value). c.place.new.self.constants ++ (x, c.in_ok-number.number.number) ∷ []) c.in_ok-copy.ensures)
