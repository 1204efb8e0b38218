use Rattle.std.proofs.Common.{List, map, ap, subst, ◌∙◌}
use Rattle.std.proofs.lemmas.List.{with_items_is}
use Rattle.ur_pages.specs.declared.page.Page.{Page}
use Rattle.ur_pages.specs.Pages.{read_page, IsToFront}
use Rattle.ur_pages.proofs.Listing.{front_mapped}
use Rattle.ur_pages.proofs.pages.Pages.bring.Goals as goal

pub returns-clause-front : goal.returns-clause-front
returns-clause-front c =
    let front = subst (λ (l : List Page). IsToFront l c.args.place c.to_front.new.items) c.deref_mut.ensures.value c.to_front.ensures.front in
    let whole = with_items_is c.self.inside.list c.to_front.new.items (c.to_front.ensures.same ∙ c.deref_mut.ensures.len) in
    rw (← c.self.view_is) (λ x here. ap (map read_page) whole ∙ front_mapped read_page c.self.inside.list.items c.to_front.new.items c.args.place front x here)
