use Rattle.ur_rows_laws.proofs.Kept.{of-union}
use Rattle.ur_rows_laws.proofs.instance_laws_laws.instance_of_union.Goals as goal

pub returns : goal.returns
returns c = of-union
