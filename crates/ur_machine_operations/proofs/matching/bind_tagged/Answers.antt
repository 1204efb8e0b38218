use Rattle.std.proofs.Common.{refl, sym}
use Rattle.ur_machine_operations.proofs.Opened.{tagged_found, tagged_other, not_tagged}
use Rattle.ur_machine_operations.proofs.matching.bind_tagged.Goals as goal

pub returns-then-other-constructor : goal.returns-then-other-constructor
returns-then-other-constructor c = tagged_found c.args.constructor _ _ _ c.held_by.result c.found.result c.in-Tagged.is c.if-other-constructor.true c.held_by.ensures c.found.ensures

pub returns-else-other-constructor : goal.returns-else-other-constructor
returns-else-other-constructor c = (sym c.in-Tagged.is, tagged_other _ _ _ _ c.in-Tagged.is c.if-other-constructor.false)

pub returns-in_default : goal.returns-in_default
returns-in_default c = (refl, not_tagged c.args.constructor c.args.value c.in_default.not-Tagged)
