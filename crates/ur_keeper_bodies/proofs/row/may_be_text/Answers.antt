use Rattle.std.proofs.Common.{arith}
use Rattle.ur_keeper_bodies.proofs.Texts.{may-be, may-not}
use Rattle.ur_keeper_bodies.proofs.row.may_be_text.Goals as goal

pub returns-in-Ok-clause-value : goal.returns-in-Ok-clause-value
returns-in-Ok-clause-value c = may-be c.args.text.now (omega (arith, c.if-text-gt16777184.false)) c.in-Ok.ensures.cases.1

pub returns-in-Err-clause-value : goal.returns-in-Err-clause-value
returns-in-Err-clause-value c = may-not c.args.text.now c.in-Err.ensures.cases.0
