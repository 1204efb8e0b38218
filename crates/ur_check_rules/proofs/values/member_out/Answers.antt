use Rattle.ur_check_scopes.proofs.Exits.{refused-along}
use Rattle.ur_check_rules.proofs.values.member_out.Goals as goal

pub returns-clause-refused : goal.returns-clause-refused
returns-clause-refused c = refused-along c.declared_out.result (λ r h w s st m k. h w s st m k tt) c.declared_out.ensures.refused
