use Rattle.std.proofs.Common.{ap, ◌∙◌, sym, arith}
use Rattle.std.specs.FinMap.{get}
use Rattle.ur_cacheindex.proofs.Laws.{none_past}
use Rattle.ur_cacheindex.proofs.counted.Counted.bound.Goals as goal

pub returns : goal.returns
returns g c n past = ap (λ m. get m n) (sym c.self.view_is) ∙ none_past c.self.inside.items n (omega (arith, past, c.capacity.ensures.slots))
