use Rattle.ur_typed_laws.proofs.Made.{typed_is_given}
use Rattle.ur_typed_laws.proofs.source_laws_law.typed_is_given.Goals as goal

pub returns : goal.returns
returns c = typed_is_given
