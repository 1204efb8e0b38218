-- A term has at most one type.
use Rattle.ur_verify.proofs.Once.{one_type}
use Rattle.ur_verify.proofs.law.types_are_unique.Goals as goal

pub returns : goal.returns
returns c = one_type
