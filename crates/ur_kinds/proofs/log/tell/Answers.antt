use Rattle.ur_kinds.proofs.Pieces.{told-one}
use Rattle.ur_kinds.proofs.log.tell.Goals as goal

pub returns : goal.returns
returns c = told-one _ _ _ c.in_ok-push.ensures.ok
