use Rattle.ur_serve.proofs.Fronts.{one_front}
use Rattle.ur_serve.proofs.laws.one_front.Goals as goal

pub returns : goal.returns
returns c = one_front
