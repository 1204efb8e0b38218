use Rattle.ur_values.proofs.Extending.{extends-itself}
use Rattle.ur_values.proofs.law.schemas_extend_themselves.Goals as goal

pub returns : goal.returns
returns c = extends-itself
