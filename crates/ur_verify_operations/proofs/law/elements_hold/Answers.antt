-- Elements in bodies and forms.
use Rattle.ur_verify_operations.proofs.Table.{element_to_flow}
use Rattle.ur_verify_operations.proofs.law.elements_hold.Goals as goal

pub returns : goal.returns
returns c = element_to_flow
