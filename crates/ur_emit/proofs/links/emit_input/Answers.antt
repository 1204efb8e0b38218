use Rattle.std.proofs.Common.{◌++◌, ap, ◌∙◌, arith}
use Rattle.ur_tags.specs.Show.{show_field}
use Rattle.ur_emit.proofs.Calls.{emits_input}
use Rattle.ur_emit.proofs.links.emit_input.Goals as goal

pub returns : goal.returns
returns c =
    emits_input c.args.handlers.now c.args.slots.now c.args.kind c.args.name c.args.text.now c.args.args.now c.in_ok-value.value c.args.out.now
    c.push_field.new.out c.args.room.now c.take.new.room c.take-2.new.room c.take_text.new.room
    c.in_ok-value.ensures c.in_ok-take.ensures (omega (arith, c.len.ensures, c.in_ok-take-2.ensures)) c.in_ok-take_text.ensures
    (c.in_ok-push_field.ensures ∙ ap (λ n. c.args.out.now ++ show_field c.args.kind n c.in_ok-value.value) c.as_slice.ensures)
