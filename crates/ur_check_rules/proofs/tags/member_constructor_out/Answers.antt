use Rattle.ur_check_scopes.proofs.Exits.{refused-along}
use Rattle.ur_check_rules.proofs.Tagging.{member-told}
use Rattle.ur_check_rules.proofs.tags.member_constructor_out.Goals as goal

pub returns-clause-refused : goal.returns-clause-refused
returns-clause-refused c = refused-along c.tagged_out.result (λ r h w s st mode k. member-told c.args.around.now.world.now.datatype_names w s st mode c.args.m.now c.args.x.now r (h w s k)) c.tagged_out.ensures.refused
