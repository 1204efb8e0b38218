use Rattle.std.proofs.Common.{◌∙◌}
use Rattle.ur_check_heads.proofs.Seeing.{datatype-at}
use Rattle.ur_check_heads.proofs.datatypes.add_datatype.Goals as goal

pub returns-clause-ok : goal.returns-clause-ok
returns-clause-ok c = λ home z s.
    datatype-at c.args.project.now _ home z c.args.name.now c.in_ok-of_datatype.of_datatype c.in_ok-of_text.of_text c.in_ok-at.at c.in_ok-entry.entry _ _ (c.in_ok-at.ensures ∙ c.len.ensures) c.in_ok-entry.ensures
    c.in_ok-of_datatype.ensures c.in_ok-of_text.ensures c.in_ok-push-2.ensures.ok c.in_ok-push-3.ensures.ok c.in_ok-push.ensures.ok s
