use Rattle.std.proofs.Common.{◌∙◌, ap}
use Rattle.ur_check_scopes.specs.declared.names.Means.TheVariants as means
use Rattle.ur_check_heads.proofs.Seeing.{val-at}
use Rattle.ur_check_heads.proofs.functions.val_in.Goals as goal

pub returns : goal.returns
returns c = λ home z s.
    val-at c.args.project.now home z c.in_ok-entry.entry c.args.name.now c.args.of _ _ c.in_ok-entry.ensures.name (c.in_ok-entry.ensures.of ∙ ap means.Val (c.in_ok-at.ensures ∙ c.len.ensures)) c.in_ok-push.ensures.ok c.in_ok-push-2.ensures.ok s
