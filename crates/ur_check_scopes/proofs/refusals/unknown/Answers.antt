use Rattle.std.proofs.Common.{[]}
use Rattle.ur_typed_rules.specs.Faults as faults
use Rattle.ur_check_scopes.proofs.Exits.{tells-so}
use Rattle.ur_check_scopes.proofs.refusals.unknown.Goals as goal

pub returns : goal.returns
returns c = λ names. tells-so names (faults.unknown c.args.name.now) 7 c.args.name.now [] c.stopped.result (λ r h. h) (c.stopped.ensures 7 c.args.name.now [] c.told.ensures)
