use Rattle.ur_rows_laws.proofs.Entries.{of-instance}
use Rattle.ur_rows_laws.proofs.reading_laws_laws.form_of_instance.Goals as goal

pub returns : goal.returns
returns c = of-instance c.args.env.now
