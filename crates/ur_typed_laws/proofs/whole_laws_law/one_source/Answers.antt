use Rattle.ur_typed_laws.proofs.Whole.{one_source}
use Rattle.ur_typed_laws.proofs.whole_laws_law.one_source.Goals as goal

pub returns : goal.returns
returns c = one_source
