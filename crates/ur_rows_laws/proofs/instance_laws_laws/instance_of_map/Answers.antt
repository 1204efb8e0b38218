use Rattle.ur_rows_laws.proofs.Closed.{of-map}
use Rattle.ur_rows_laws.proofs.instance_laws_laws.instance_of_map.Goals as goal

pub returns : goal.returns
returns c = of-map
