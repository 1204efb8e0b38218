use Rattle.std.specs.Prelude.{codes}
use Rattle.ur_typed_rules.specs.Faults as faults
use Rattle.ur_check_scopes.proofs.Exits.{tells-so}
use Rattle.ur_check_scopes.proofs.refusals.too_large.Goals as goal

pub returns : goal.returns
returns c = λ names. tells-so names faults.too_large 16 (codes "65537") (codes "65536") c.stopped.result (λ r h. h) (c.stopped.ensures 16 (codes "65537") (codes "65536") c.told.ensures)
