use Rattle.std.proofs.Common.{ap, sym, ◌∙◌, subst, IsSome}
use Rattle.std.specs.FinMap.{get, remove}
use Rattle.ur_cacheindex.proofs.Laws.{get-items_of, taken}
use Rattle.ur_cacheindex.proofs.counted.Counted.take.Goals as goal

pub remove-requires : goal.remove-requires
remove-requires g c = subst IsSome (ap (λ m. get m c.args.number) (sym c.self.view_is) ∙ get-items_of c.self.inside.items c.args.number) c.requires

pub returns-clause-item : goal.returns-clause-item
returns-clause-item g c = ap (λ m. get m c.args.number) (sym c.self.view_is) ∙ get-items_of c.self.inside.items c.args.number ∙ c.remove.ensures.value

pub returns-clause-left : goal.returns-clause-left
returns-clause-left g c = taken c.self.inside.items c.remove.new.self c.args.number c.remove.ensures.updates ∙ ap (λ m. remove m c.args.number) c.self.view_is
