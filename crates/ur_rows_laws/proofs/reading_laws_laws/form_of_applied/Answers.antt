use Rattle.ur_rows_laws.proofs.AppliedForms.{of-applied-form}
use Rattle.ur_rows_laws.proofs.reading_laws_laws.form_of_applied.Goals as goal

pub returns : goal.returns
returns c = of-applied-form c.args.env.now
