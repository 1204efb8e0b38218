use Rattle.ur_rows_laws.proofs.Kept.{keeps-kinds}
use Rattle.ur_rows_laws.proofs.instance_laws_laws.instance_keeps_kinds.Goals as goal

pub returns : goal.returns
returns c = keeps-kinds
