use Rattle.std.proofs.Common.{◌++◌, codes, subst}
use Rattle.std.proofs.lemmas.List.{take_rest}
use Rattle.ur_tags.specs.Show.{attribute, attribute_if_any}
use Rattle.ur_tags.proofs.Pieces.{written}
use Rattle.ur_emit.specs.Slots.{ReadsText}
use Rattle.ur_emit.proofs.Calls.{emits_submit}
use Rattle.ur_emit.proofs.links.emit_submit.Goals as goal

pub returns : goal.returns
returns c =
    let out = c.args.out.now in
    let label = attribute_if_any (codes "value") c.in_ok-label.label in
    emits_submit c.args.handlers.now c.args.slots.now c.args.route c.args.count c.args.unit c.args.args.now c.in_ok-label.label out c.push_attribute.new.out
    c.push_call.new.out c.extend_from_slice.new.self
    c.args.room.now c.take.new.room c.take_text.new.room (subst (λ l. ReadsText c.args.slots.now l c.in_ok-label.label)
    (take_rest c.args.args.now c.args.count) c.in_ok-label.ensures) c.in_ok-take.ensures c.in_ok-take_text.ensures c.in_ok-push_call.ensures
    (λ path sent.
    let typed = written out _ _ (codes "<input") (attribute (codes "type") (codes "submit")) c.in_ok-push_open.ensures c.in_ok-push_attribute.ensures in
    let labelled = written c.push_attribute.new.out _ _ (attribute (codes "formaction") path) label sent c.in_ok-push_attribute_if_any.ensures in
    let whole = written out _ _ _ (attribute (codes "formaction") path ++ label) typed labelled in
    written out _ _ _ (codes "/>") whole c.in_ok-extend_from_slice.ensures.ok)
