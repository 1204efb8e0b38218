use Rattle.ur_emit.proofs.Calls.{no_text, one_text}
use Rattle.ur_emit.proofs.Forms.{no_items}
use Rattle.ur_emit.proofs.InPlace.{only_one}
use Rattle.ur_emit.proofs.links.text_of.Goals as goal

pub returns-in-empty : goal.returns-in-empty
returns-in-empty c = no_text c.args.slots.now c.args.args.now (no_items c.args.args.now c.in-empty.len_below)

pub returns-in_ok-copy-in-Some : goal.returns-in_ok-copy-in-Some
returns-in_ok-copy-in-Some c =
    one_text c.args.slots.now c.args.args.now c.arg-item.result c.in-Some.text.now c.in_ok-copy-in-Some.copy
    (only_one c.args.args.now c.arg-item.result _ c.in-len1.len_at_least c.in-len1.len_below c.arg-item.is)
    c.in-Some.ensures c.in_ok-copy-in-Some.ensures
