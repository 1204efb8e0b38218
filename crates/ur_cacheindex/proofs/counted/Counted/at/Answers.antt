use Rattle.std.proofs.Common.{ap, sym, ◌∙◌, subst, IsSome}
use Rattle.std.specs.FinMap.{get}
use Rattle.ur_cacheindex.proofs.Laws.{get-items_of}
use Rattle.ur_cacheindex.proofs.counted.Counted.at.Goals as goal

pub index-requires : goal.index-requires
index-requires g c = subst IsSome (ap (λ m. get m c.args.number) (sym c.self.view_is) ∙ get-items_of c.self.inside.items c.args.number) c.requires

pub returns-clause-item : goal.returns-clause-item
returns-clause-item g c = ap (λ m. get m c.args.number) (sym c.self.view_is) ∙ get-items_of c.self.inside.items c.args.number ∙ c.index.ensures
