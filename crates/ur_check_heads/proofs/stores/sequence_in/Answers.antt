use Rattle.std.proofs.Common.{◌∙◌}
use Rattle.ur_check_heads.proofs.Seeing.{sequence-at}
use Rattle.ur_check_heads.proofs.stores.sequence_in.Goals as goal

pub returns : goal.returns
returns c = λ home z s.
    sequence-at c.args.project.now home z c.in_ok-entry.entry c.args.name.now c.in_ok-full.full _ _ c.in_ok-entry.ensures.name (c.in_ok-entry.ensures.of ∙ c.in_ok-at.ensures ∙ c.len.ensures) c.in_ok-full.ensures c.in_ok-push.ensures.ok c.in_ok-push-2.ensures.ok s
