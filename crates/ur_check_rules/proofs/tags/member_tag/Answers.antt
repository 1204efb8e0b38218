use Rattle.ur_check_scopes.proofs.Exits.{refused-exit}
use Rattle.ur_check_rules.proofs.Tagging.{member-head}
use Rattle.ur_check_rules.proofs.tags.member_tag.Goals as goal

pub returns-in_err-number-clause-refused : goal.returns-in_err-number-clause-refused
returns-in_err-number-clause-refused c =
    refused-exit c.from_residual.result c.in_err-number.field-0.0 c.from_residual.ensures.1
    (λ r h w s k. member-head c.args.around.now.world.now.datatype_names w c.args.m.now c.args.x.now r (h w s k)) c.in_err-number.ensures.refused
