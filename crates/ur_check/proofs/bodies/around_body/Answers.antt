use Rattle.std.proofs.Common.{refl}
use Rattle.ur_check.proofs.Bodying.{rebuilt}
use Rattle.ur_check.proofs.bodies.around_body.Goals as goal

pub returns-clause-stands : goal.returns-clause-stands
returns-clause-stands c = λ home z h s i o. rebuilt c.args.project.now home z c.within_body-within.result _ _ s refl refl (c.within_body-within.ensures home z h s i o)
