use Rattle.ur_typed_laws.proofs.Larger.{larger_limit}
use Rattle.ur_typed_laws.proofs.project_laws_law.larger_limit.Goals as goal

pub returns : goal.returns
returns c = larger_limit
