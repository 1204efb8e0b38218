use Rattle.std.proofs.Common.{◌↔◌, ap, ◌∙◌, sym, subst, IsTrue, IsSome}
use Rattle.std.specs.FinMap.{get}
use Rattle.ur_cacheindex.proofs.Laws.{get-items_of}
use Rattle.ur_cacheindex.proofs.counted.Counted.has.Goals as goal

pub returns : goal.returns
returns g c =
    subst (λ o. IsTrue c.contains.result ↔ IsSome o) (sym (get-items_of c.self.inside.items c.args.number) ∙ ap (λ m. get m c.args.number) c.self.view_is) c.contains.ensures
