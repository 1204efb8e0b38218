use Rattle.std.proofs.Common.{List, map, ap, ◌∙◌}
use Rattle.ur_pages.specs.Pages.{Pages, Remembered, read_page}
use Rattle.ur_pages.proofs.Listing.{remove_map}
use Rattle.ur_pages.proofs.pages.Pages.forget.Goals as goal

pub returns : goal.returns
returns c =
    rw (← c.self.view_is) (ap (λ (l : List Remembered). record { most = c.self.inside.most; list = l })
    (ap (map read_page) c.remove.ensures.items ∙ remove_map read_page c.self.inside.list.items c.args.place))
