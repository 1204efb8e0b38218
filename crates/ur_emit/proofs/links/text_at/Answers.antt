use Rattle.ur_emit.proofs.Calls.{text_found, text_here}
use Rattle.ur_emit.proofs.links.text_at.Goals as goal

pub returns-in-Str : goal.returns-in-Str
returns-in-Str c = text_here c.args.slots.now c.args.arg.now c.in-Str.text c.as_slice.result.now c.in-Str.is c.as_slice.ensures

pub returns-in-Str-value : goal.returns-in-Str-value
returns-in-Str-value c =
    text_found c.args.slots.now c.args.arg.now c.in-Some.value.now c.in-Str-value.text c.as_slice-in-Str-value.result.now c.in-Some.ensures c.in-Str-value.is
    c.as_slice-in-Str-value.ensures
