use Rattle.ur_rows_laws.proofs.Applied.{of-applied}
use Rattle.ur_rows_laws.proofs.instance_laws_laws.instance_of_applied.Goals as goal

pub returns : goal.returns
returns c = of-applied
