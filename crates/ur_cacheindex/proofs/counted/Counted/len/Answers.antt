use Rattle.std.proofs.Common.{ap, sym, ◌∙◌}
use Rattle.std.specs.FinMap.{len}
use Rattle.ur_cacheindex.proofs.Laws.{length-items_of}
use Rattle.ur_cacheindex.proofs.counted.Counted.len.Goals as goal

pub returns : goal.returns
returns g c = c.len.ensures ∙ sym (length-items_of c.self.inside.items) ∙ ap len c.self.view_is
