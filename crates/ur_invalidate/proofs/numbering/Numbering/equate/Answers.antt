use Rattle.std.proofs.Common.{refl}
use Rattle.std.proofs.lemmas.Result.{on_ok_weaker}
use Rattle.ur_invalidate.specs.declared.numbering.Numbering.{Numbering}
use Rattle.ur_invalidate.proofs.Stages.{equation_stands}
use Rattle.ur_invalidate.proofs.numbering.Numbering.equate.Goals as goal

pub returns : goal.returns
returns c =
    let final : Numbering = record { leaves = c.sides.new.self.leaves; closure = c.equate.new.self; constants = c.sides.new.self.constants } in
    on_ok_weaker c.equate.result (λ equates. equation_stands c.args.self.now c.sides.new.self final c.args.equation.now c.in_ok-left.left c.in_ok-left.right c.in_ok-left.ensures equates refl refl) c.equate.ensures.ok
