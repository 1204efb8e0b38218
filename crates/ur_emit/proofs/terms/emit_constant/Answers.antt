use Rattle.std.proofs.Common.{◌∷◌, [], IfOk, subst}
use Rattle.ur_values.specs.declared.value.Node.TheVariants as n
use Rattle.ur_emit.specs.Slots.{Adds}
use Rattle.ur_emit.proofs.Forms.{if_ok, no_items, emits_text}
use Rattle.ur_emit.proofs.terms.emit_constant.Goals as goal

pub returns-in-empty : goal.returns-in-empty
returns-in-empty c =
    let h = c.args.handlers.now in
    let text = c.args.text.now in
    if_ok c.emit_text.result _ _ (λ d a. emits_text h c.args.slots.now text c.args.args.now _ _ _ _ d (no_items c.args.args.now c.in-empty.len_below) a)
    (subst (λ tx. IfOk c.emit_text.result (Adds h (n.Text tx ∷ []) c.args.out.now c.emit_text.new.out c.args.room.now c.emit_text.new.room))
    c.as_slice.ensures c.emit_text.ensures)
