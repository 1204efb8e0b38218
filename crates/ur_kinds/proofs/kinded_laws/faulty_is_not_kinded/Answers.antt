use Rattle.ur_kinds.proofs.Searching.{fault-unkinded}
use Rattle.ur_kinds.proofs.kinded_laws.faulty_is_not_kinded.Goals as goal

pub returns : goal.returns
returns c = fault-unkinded
