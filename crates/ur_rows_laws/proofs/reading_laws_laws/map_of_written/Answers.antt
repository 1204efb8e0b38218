use Rattle.ur_rows_laws.proofs.Composed.{of-written}
use Rattle.ur_rows_laws.proofs.reading_laws_laws.map_of_written.Goals as goal

pub returns : goal.returns
returns c = of-written c.args.env.now
