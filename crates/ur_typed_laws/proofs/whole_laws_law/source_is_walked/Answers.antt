use Rattle.ur_typed_laws.proofs.Whole.{source_is_walked}
use Rattle.ur_typed_laws.proofs.whole_laws_law.source_is_walked.Goals as goal

pub returns : goal.returns
returns c = source_is_walked
