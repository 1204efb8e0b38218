use Rattle.std.proofs.Common.{ap, sym, ◌∙◌, subst, IsSome, refl}
use Rattle.std.specs.FinMap.{get, insert}
use Rattle.ur_cacheindex.proofs.Laws.{get-items_of, lent}
use Rattle.ur_cacheindex.proofs.counted.Counted.at_mut.Goals as goal

pub index_mut-requires : goal.index_mut-requires
index_mut-requires g c = subst IsSome (ap (λ m. get m c.args.number) (sym c.self.view_is) ∙ get-items_of c.self.inside.items c.args.number) c.requires

pub returns : goal.returns
returns g c =
    let there = subst IsSome (ap (λ m. get m c.args.number) (sym c.self.view_is) ∙ get-items_of c.self.inside.items c.args.number) c.requires in (
      (refl, λ w. lent c.self.inside.items c.args.number w there ∙ ap (λ m. insert m c.args.number w) c.self.view_is),
      record {
        left = tt;
        item = ap (λ m. get m c.args.number) (sym c.self.view_is) ∙ get-items_of c.self.inside.items c.args.number ∙ c.index_mut.ensures.value;
        step = c.tick.ensures;
      },
    )
