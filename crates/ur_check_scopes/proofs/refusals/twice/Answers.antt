use Rattle.std.proofs.Common.{[]}
use Rattle.ur_typed_rules.specs.Faults as faults
use Rattle.ur_check_scopes.proofs.Exits.{tells-so}
use Rattle.ur_check_scopes.proofs.refusals.twice.Goals as goal

pub returns : goal.returns
returns c = λ names. tells-so names (faults.twice c.args.name.now) 8 c.args.name.now [] c.stopped.result (λ r h. h) (c.stopped.ensures 8 c.args.name.now [] c.told.ensures)
