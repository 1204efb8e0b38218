use Rattle.ur_rows_reduce.proofs.Holding.{form-of-small, form-of-large}
use Rattle.ur_rows_reduce.proofs.held.form_of.Goals as goal

pub returns-in-Small : goal.returns-in-Small
returns-in-Small c = form-of-small c.args.f c.in-Small.r c.in-Small.field-1 c.in-Small.is

pub returns : goal.returns
returns c = form-of-large c.args.f c.in-Large.field-0 c.in-Large.is
