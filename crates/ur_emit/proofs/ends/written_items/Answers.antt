use Rattle.std.proofs.Common.{◌≤◌, subst, arith}
use Rattle.ur_emit.specs.Slots.{EmitEach}
use Rattle.ur_emit.proofs.Forms.{items_come}
use Rattle.ur_emit.proofs.ends.written_items.Goals as goal

pub returns-clause-comes : goal.returns-clause-comes
returns-clause-comes c =
    let deep = c.in_ok-nesting.nesting in
    let small : deep ≤ 1023 = omega arith in
    items_come c.args.handlers.now c.args.slots.now c.args.body.now c.args.items.now c.emit_items.new.out c.emit_items.new.room c.saturating_sub.result deep
    c.saturating_sub.ensures small
    (subst (λ b. EmitEach c.args.handlers.now c.args.slots.now c.args.body.now c.args.items.now b c.emit_items.new.out 16777184 c.emit_items.new.room deep)
    c.new-bytes.ensures c.in_ok-nesting.ensures.emits)
