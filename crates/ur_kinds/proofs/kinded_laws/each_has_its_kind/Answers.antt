use Rattle.ur_kinds.proofs.Searching.{each}
use Rattle.ur_kinds.proofs.kinded_laws.each_has_its_kind.Goals as goal

pub returns : goal.returns
returns c = each
