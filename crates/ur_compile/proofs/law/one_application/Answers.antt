use Rattle.ur_compile.proofs.Refusing.{one_application}
use Rattle.ur_compile.proofs.law.one_application.Goals as goal

pub returns : goal.returns
returns c = one_application c.one_project.ensures c.one_typed_source.ensures
