use Rattle.ur_compile_laws.proofs.Serving.{routes_can_be_served}
use Rattle.ur_compile_laws.proofs.law.routes_can_be_served.Goals as goal

pub returns : goal.returns
returns c = routes_can_be_served
