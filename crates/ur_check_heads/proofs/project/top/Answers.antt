use Rattle.std.proofs.Common.{refl}
use Rattle.ur_check_heads.proofs.Entering.{top-stands}
use Rattle.ur_check_heads.proofs.project.top.Goals as goal

pub returns-clause-stands : goal.returns-clause-stands
returns-clause-stands c = top-stands c.args.project.now _ refl c.in_scope.ensures refl refl refl
