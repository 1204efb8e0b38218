use Rattle.std.proofs.Common.{◌≡◌, true, false, sym, ap, ◌∙◌, Some, rules, arith}
use Rattle.percent_encoding.specs.Percent.{percent_decode}
use Rattle.std.specs.Str.{is_utf8}
use Rattle.ur_tags.proofs.Decoding.{decode_is}
use Rattle.ur_tags.proofs.segments.decode.Goals as goal

pub returns-then-is_text : goal.returns-then-is_text
returns-then-is_text c =
    let text : c.append_to.new.out.items ≡ percent_decode c.args.segment.now = search rules in
    let tested : true ≡ is_utf8 (percent_decode c.args.segment.now) = sym c.if-is_text.true ∙ c.is_text.ensures ∙ ap is_utf8 (c.as_slice.ensures.value ∙ text) in
    ap Some (c.from_vec.ensures ∙ text) ∙ sym (decode_is c.args.segment.now true (grind arith) tested)

pub returns-else-is_text : goal.returns-else-is_text
returns-else-is_text c =
    let text : c.append_to.new.out.items ≡ percent_decode c.args.segment.now = search rules in
    let tested : false ≡ is_utf8 (percent_decode c.args.segment.now) = sym c.if-is_text.false ∙ c.is_text.ensures ∙ ap is_utf8 (c.as_slice.ensures.value ∙ text) in
    sym (decode_is c.args.segment.now false (grind arith) tested)
