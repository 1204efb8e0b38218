use Rattle.ur_typed_laws.proofs.Made.{none_has_no_source}
use Rattle.ur_typed_laws.proofs.source_laws_law.none_has_no_source.Goals as goal

pub returns : goal.returns
returns c = none_has_no_source
