use Rattle.std.proofs.Common.{◌+◌, ◌∷◌, drop, subst, sym, ap, ◌∙◌}
use Rattle.std.proofs.lemmas.List.{drop_more}
use Rattle.ur_cache.specs.Held.{DropsSoFar}
use Rattle.ur_cache.proofs.Recency.{DropsSoFar-more}
use Rattle.ur_cache.proofs.held.drop_masked.Goals as goal

pub loop-mask-preserved : goal.loop-mask-preserved
loop-mask-preserved c =
    let all = c.args.masks.now in
    let i = c.loop-mask.mask-index in
    let mask = c.mask-item.result in
    let next = drop_more all i mask c.loop-mask-test.true ∙ ap (λ x. x ∷ drop (i + 1) all) (sym c.mask-item.is) in (
      DropsSoFar-more all mask (drop (i + 1) all) c.args.index.now c.loop-mask.index c.drop_matching.new.index c.args.held.now.entries c.loop-mask.held.entries c.drop_matching.new.held.entries c.args.dropped.now c.loop-mask.dropped
          c.drop_matching.new.dropped
          (subst (λ ms. DropsSoFar all ms c.args.index.now c.args.held.now.entries c.args.dropped.now c.loop-mask.index c.loop-mask.held.entries c.loop-mask.dropped) next c.loop-mask.invariant.0) c.drop_matching.ensures.keeps,
      c.drop_matching.ensures.cap ∙ c.loop-mask.invariant.1,
    )
