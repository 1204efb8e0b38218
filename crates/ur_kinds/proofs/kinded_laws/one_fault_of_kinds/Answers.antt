use Rattle.ur_kinds.proofs.Searching.{one-fault}
use Rattle.ur_kinds.proofs.kinded_laws.one_fault_of_kinds.Goals as goal

pub returns : goal.returns
returns c = one-fault
