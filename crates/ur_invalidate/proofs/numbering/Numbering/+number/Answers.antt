use Rattle.std.proofs.Common.{refl, ap}
use Rattle.ur_conditions.specs.Terms.{constant_of}
use Rattle.ur_congruence.specs.Derives.{some_symbol}
use Rattle.ur_invalidate.specs.Numbers.{leaf_of}
use Rattle.ur_invalidate.proofs.Adds.{one_adds, both_adds}
use Rattle.ur_invalidate.proofs.Parts.{both_parts, one_part}
use Rattle.ur_invalidate.proofs.Shapes.{add_of, sub_of, mul_of, neg_of, present_of}
use Rattle.std.proofs.lemmas.Result.{IfOk-weaker}
use Rattle.ur_invalidate.proofs.numbering.Numbering.+number.Goals as goal

pub number-requires : goal.number-requires
number-requires t c = let parts = both_parts c.args.term.now c.get.result.now c.in-Add.b 0 t (add_of c.args.term.now c.in-Add.a c.in-Add.b c.get.result.now c.in-Add.b c.in-Add.is c.get.ensures refl) c.requires.atoms c.decreases in (parts.left_smaller, parts.left)

pub number-requires-in-Add : goal.number-requires-in-Add
number-requires-in-Add t c = let parts = both_parts c.args.term.now c.get.result.now c.get-in-Add.result.now 0 t (add_of c.args.term.now c.in-Add.a c.in-Add.b c.get.result.now c.get-in-Add.result.now c.in-Add.is c.get.ensures c.get-in-Add.ensures) c.requires.atoms c.decreases in (parts.right_smaller, parts.right)

pub returns-in_ok-right-in-Add : goal.returns-in_ok-right-in-Add
returns-in_ok-right-in-Add t c =
    IfOk-weaker c.apply.result _ _
    (λ number adds. both_adds c.args.self.now c.number.new.self c.number-in-Add.new.self c.apply.new.self 0 c.args.term.now c.get.result.now c.get-in-Add.result.now c.in_ok-left-in-Add.left.number c.in_ok-right-in-Add.right.number number.number
    (add_of c.args.term.now c.in-Add.a c.in-Add.b c.get.result.now c.get-in-Add.result.now c.in-Add.is c.get.ensures c.get-in-Add.ensures) c.in_ok-left-in-Add.ensures c.in_ok-right-in-Add.ensures adds) c.apply.ensures

pub number-requires-in-Sub : goal.number-requires-in-Sub
number-requires-in-Sub t c = let parts = both_parts c.args.term.now c.get-in-Sub.result.now c.in-Sub.b 1 t (sub_of c.args.term.now c.in-Sub.a c.in-Sub.b c.get-in-Sub.result.now c.in-Sub.b c.in-Sub.is c.get-in-Sub.ensures refl) c.requires.atoms c.decreases in (parts.left_smaller, parts.left)

pub number-requires-in-Sub-2 : goal.number-requires-in-Sub-2
number-requires-in-Sub-2 t c = let parts = both_parts c.args.term.now c.get-in-Sub.result.now c.get-in-Sub-2.result.now 1 t (sub_of c.args.term.now c.in-Sub.a c.in-Sub.b c.get-in-Sub.result.now c.get-in-Sub-2.result.now c.in-Sub.is c.get-in-Sub.ensures c.get-in-Sub-2.ensures) c.requires.atoms c.decreases in (parts.right_smaller, parts.right)

pub returns-in_ok-right-in-Sub : goal.returns-in_ok-right-in-Sub
returns-in_ok-right-in-Sub t c =
    IfOk-weaker c.apply-in-Sub.result _ _
    (λ number adds. both_adds c.args.self.now c.number-in-Sub.new.self c.number-in-Sub-2.new.self c.apply-in-Sub.new.self 1 c.args.term.now c.get-in-Sub.result.now c.get-in-Sub-2.result.now c.in_ok-left-in-Sub.left.number c.in_ok-right-in-Sub.right.number number.number
    (sub_of c.args.term.now c.in-Sub.a c.in-Sub.b c.get-in-Sub.result.now c.get-in-Sub-2.result.now c.in-Sub.is c.get-in-Sub.ensures c.get-in-Sub-2.ensures) c.in_ok-left-in-Sub.ensures c.in_ok-right-in-Sub.ensures adds) c.apply-in-Sub.ensures

pub number-requires-in-Mul : goal.number-requires-in-Mul
number-requires-in-Mul t c = let parts = both_parts c.args.term.now c.get-in-Mul.result.now c.in-Mul.b 2 t (mul_of c.args.term.now c.in-Mul.a c.in-Mul.b c.get-in-Mul.result.now c.in-Mul.b c.in-Mul.is c.get-in-Mul.ensures refl) c.requires.atoms c.decreases in (parts.left_smaller, parts.left)

pub number-requires-in-Mul-2 : goal.number-requires-in-Mul-2
number-requires-in-Mul-2 t c = let parts = both_parts c.args.term.now c.get-in-Mul.result.now c.get-in-Mul-2.result.now 2 t (mul_of c.args.term.now c.in-Mul.a c.in-Mul.b c.get-in-Mul.result.now c.get-in-Mul-2.result.now c.in-Mul.is c.get-in-Mul.ensures c.get-in-Mul-2.ensures) c.requires.atoms c.decreases in (parts.right_smaller, parts.right)

pub returns-in_ok-right-in-Mul : goal.returns-in_ok-right-in-Mul
returns-in_ok-right-in-Mul t c =
    IfOk-weaker c.apply-in-Mul.result _ _
    (λ number adds. both_adds c.args.self.now c.number-in-Mul.new.self c.number-in-Mul-2.new.self c.apply-in-Mul.new.self 2 c.args.term.now c.get-in-Mul.result.now c.get-in-Mul-2.result.now c.in_ok-left-in-Mul.left.number c.in_ok-right-in-Mul.right.number number.number
    (mul_of c.args.term.now c.in-Mul.a c.in-Mul.b c.get-in-Mul.result.now c.get-in-Mul-2.result.now c.in-Mul.is c.get-in-Mul.ensures c.get-in-Mul-2.ensures) c.in_ok-left-in-Mul.ensures c.in_ok-right-in-Mul.ensures adds) c.apply-in-Mul.ensures

pub number-requires-in-Neg : goal.number-requires-in-Neg
number-requires-in-Neg t c = let part = one_part c.args.term.now c.get-in-Neg.result.now 3 t (neg_of c.args.term.now c.in-Neg.a c.get-in-Neg.result.now c.in-Neg.is c.get-in-Neg.ensures) c.requires.atoms c.decreases in (part.smaller, part.atoms)

pub returns-in_ok-part-in-Neg : goal.returns-in_ok-part-in-Neg
returns-in_ok-part-in-Neg t c =
    IfOk-weaker c.apply-in-Neg.result _ _
    (λ number adds. one_adds c.args.self.now c.number-in-Neg.new.self c.apply-in-Neg.new.self 3 c.args.term.now c.get-in-Neg.result.now c.in_ok-part-in-Neg.part.number number.number (neg_of c.args.term.now c.in-Neg.a c.get-in-Neg.result.now c.in-Neg.is c.get-in-Neg.ensures) c.in_ok-part-in-Neg.ensures adds)
    c.apply-in-Neg.ensures

pub returns-in-Item : goal.returns-in-Item
returns-in-Item t c = IfOk-weaker c.leaf.result _ _ (λ number adds. adds c.args.term.now (ap leaf_of c.in-Item.is) (ap constant_of c.in-Item.is)) c.leaf.ensures

pub returns-in-Row : goal.returns-in-Row
returns-in-Row t c = IfOk-weaker c.leaf-in-Row.result _ _ (λ number adds. adds c.args.term.now (ap leaf_of c.in-Row.is) (ap constant_of c.in-Row.is)) c.leaf-in-Row.ensures

pub returns-in-Old : goal.returns-in-Old
returns-in-Old t c = IfOk-weaker c.leaf-in-Old.result _ _ (λ number adds. adds c.args.term.now (ap leaf_of c.in-Old.is) (ap constant_of c.in-Old.is)) c.leaf-in-Old.ensures

pub returns-in-Key : goal.returns-in-Key
returns-in-Key t c = IfOk-weaker c.leaf-in-Key.result _ _ (λ number adds. adds c.args.term.now (ap leaf_of c.in-Key.is) (ap constant_of c.in-Key.is)) c.leaf-in-Key.ensures

pub returns-in-Arg : goal.returns-in-Arg
returns-in-Arg t c = IfOk-weaker c.leaf-in-Arg.result _ _ (λ number adds. adds c.args.term.now (ap leaf_of c.in-Arg.is) (ap constant_of c.in-Arg.is)) c.leaf-in-Arg.ensures

pub number-requires-in-Present : goal.number-requires-in-Present
number-requires-in-Present t c =
    let part = one_part c.args.term.now c.get-in-Present.result.now some_symbol t
    (present_of c.args.term.now c.in-Present.a c.get-in-Present.result.now c.in-Present.is c.get-in-Present.ensures) c.requires.atoms c.decreases in
    (part.smaller, part.atoms)

pub returns-in_ok-part-in-Present : goal.returns-in_ok-part-in-Present
returns-in_ok-part-in-Present t c =
    IfOk-weaker c.inject.result _ _
    (λ number adds. one_adds c.args.self.now c.number-in-Present.new.self c.inject.new.self some_symbol c.args.term.now c.get-in-Present.result.now
    c.in_ok-part-in-Present.part.number number.number
    (present_of c.args.term.now c.in-Present.a c.get-in-Present.result.now c.in-Present.is c.get-in-Present.ensures) c.in_ok-part-in-Present.ensures adds)
    c.inject.ensures
