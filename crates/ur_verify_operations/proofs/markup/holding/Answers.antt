-- What holds parts.
use Rattle.ur_verify_operations.proofs.Covering.{not_so}
use Rattle.ur_verify_operations.proofs.Flows.{bodies_held, held_by}
use Rattle.ur_verify_operations.proofs.markup.holding.Goals as goal

pub returns-then-all_are-clause-fits : goal.returns-then-all_are-clause-fits
returns-then-all_are-clause-fits c = bodies_held c.args.ts.now (c.all_are.ensures.0 c.if-all_are.true)

pub returns-clause-fits : goal.returns-clause-fits
returns-clause-fits c = held_by c.args.ts.now c.form_of.result (not_so _ c.all_are.ensures c.if-all_are.false) c.form_of.ensures.fits
