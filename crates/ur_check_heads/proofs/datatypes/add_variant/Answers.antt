use Rattle.std.proofs.Common.{◌∙◌}
use Rattle.ur_check_heads.proofs.Seeing.{variant-at}
use Rattle.ur_check_heads.proofs.datatypes.add_variant.Goals as goal

pub returns : goal.returns
returns c = λ home z s.
    variant-at c.args.project.now home z c.in_ok-entry.entry c.args.datatype c.args.name.now c.in_ok-name.name c.args.arg _ _ c.in_ok-entry.ensures.name (c.in_ok-entry.ensures.of ∙ c.in_ok-at.ensures ∙ c.len.ensures) c.in_ok-name.ensures c.in_ok-push.ensures.ok c.in_ok-push-2.ensures.ok s
