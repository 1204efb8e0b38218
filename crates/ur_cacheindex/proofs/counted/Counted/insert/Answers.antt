use Rattle.std.proofs.Common.{ap, sym, ◌∙◌}
use Rattle.std.specs.FinMap.{get, insert}
use Rattle.ur_cacheindex.proofs.Laws.{get-items_of, written, room_made}
use Rattle.ur_cacheindex.proofs.counted.Counted.insert.Goals as goal

pub returns : goal.returns
returns g c =
    let kept = room_made c.self.inside.items c.reserve.new.self c.reserve.ensures.rest_kept ∙ c.self.view_is in (
      ap (λ m. get m c.insert_reserved.result) (sym kept) ∙ get-items_of c.reserve.new.self c.insert_reserved.result ∙ c.insert_reserved.ensures.was_vacant,
      written c.reserve.new.self c.insert_reserved.new.self c.insert_reserved.result c.args.item c.insert_reserved.ensures.updates ∙ ap (λ m. insert m c.insert_reserved.result c.args.item) kept,
    )
