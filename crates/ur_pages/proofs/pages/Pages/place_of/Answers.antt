use Rattle.std.proofs.Common.{List, position, sym, ap, ◌∙◌}
use Rattle.ur_pages.specs.declared.page.Page.{Page}
use Rattle.ur_pages.specs.Pages.{is_at, read_page}
use Rattle.ur_pages.proofs.Listing.{position_map}
use Rattle.ur_pages.proofs.pages.Pages.place_of.Goals as goal

pub returns : goal.returns
returns c =
    rw (← c.self.view_is) (c.place_of.ensures ∙ ap (λ (l : List Page). position (λ p. is_at c.args.path.now (read_page p)) l) c.as_slice.ensures.value
    ∙ sym (position_map read_page (is_at c.args.path.now) c.self.inside.list.items))
