use Rattle.std.proofs.Common.{refl}
use Rattle.ur_sqltype.specs.SqltypeFaults.{in_insert, other_number}
use Rattle.ur_sqltype.proofs.Exits.{refused-along}
use Rattle.ur_sqltype_statements.proofs.actions.insert_of.Goals as goal

pub returns-then-count-given-clause-refused : goal.returns-then-count-given-clause-refused
returns-then-count-given-clause-refused c = refused-along c.complete.result (λ r h. h c.args.at c.args.x.now) c.complete.ensures.refused

pub returns-clause-refused : goal.returns-clause-refused
returns-clause-refused c = in_insert c.args.span c.args.x.now c.args.names.now c.args.values.now refl (other_number (λ e. c.if-count-given.false (cc)) c.in_ok-other_number.ensures)
