use Rattle.ur_typed_laws.proofs.Made.{source_is_made}
use Rattle.ur_typed_laws.proofs.source_laws_law.source_is_made.Goals as goal

pub returns : goal.returns
returns c = source_is_made
