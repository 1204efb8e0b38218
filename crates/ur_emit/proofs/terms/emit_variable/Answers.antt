use Rattle.std.proofs.Common.{◌++◌, ap, ◌∙◌}
use Rattle.ur_emit.proofs.Forms.{emits_built, emits_variable, if_ok}
use Rattle.ur_emit.proofs.terms.emit_variable.Goals as goal

pub returns-in_ok-extend_from_slice-in-Chunk : goal.returns-in_ok-extend_from_slice-in-Chunk
returns-in_ok-extend_from_slice-in-Chunk c =
    emits_variable c.args.handlers.now c.args.slots.now c.args.number c.in-Some.slot.now c.in-Chunk.chunk c.args.out.now c.extend_from_slice.new.self
    c.args.room.now c.take.new.room
    c.in-Some.ensures c.in-Chunk.is (c.in_ok-extend_from_slice-in-Chunk.ensures.ok ∙ ap (λ b. c.args.out.now ++ b) c.as_slice.ensures)
    c.in_ok-take-in-Chunk.ensures

pub returns-in-Value : goal.returns-in-Value
returns-in-Value c =
    if_ok c.emit_built.result _ _ (λ d e. emits_built c.args.handlers.now c.args.slots.now c.args.number c.in-Some.slot.now c.in-Value.value _ _ _ _ d
    c.in-Some.ensures c.in-Value.is e) c.emit_built.ensures
