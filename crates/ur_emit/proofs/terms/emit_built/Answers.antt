use Rattle.std.proofs.Common.{◌++◌, ap, ◌∙◌, arith}
use Rattle.ur_tags.specs.Show.{show_nodes}
use Rattle.ur_emit.proofs.Forms.{built_adds}
use Rattle.ur_emit.proofs.terms.emit_built.Goals as goal

pub returns-in_ok-push_nodes-in-Markup : goal.returns-in_ok-push_nodes-in-Markup
returns-in_ok-push_nodes-in-Markup c =
    built_adds c.args.handlers.now c.args.value.now c.in-Markup.nodes c.size-size.result c.nesting-deep.result c.args.out.now c.push_nodes.new.out
    c.args.room.now c.take.new.room c.in-Markup.is c.size-size.ensures (omega arith) c.nesting-deep.ensures (omega arith)
    (c.in_ok-push_nodes-in-Markup.ensures ∙ ap (λ ns. c.args.out.now ++ show_nodes c.args.handlers.now ns) c.as_slice.ensures) c.in_ok-take-in-Markup.ensures
