use Rattle.ur_typed_laws.proofs.Unique.{one_typed_source}
use Rattle.ur_typed_laws.proofs.project_laws_law.one_typed_source.Goals as goal

pub returns : goal.returns
returns c = one_typed_source
