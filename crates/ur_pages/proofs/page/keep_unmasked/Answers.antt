use Rattle.std.proofs.Common.{not, map, ap, ◌∙◌, rules}
use Rattle.std.proofs.lemmas.Fn.{filter_same}
use Rattle.ur_pages.specs.Pages.{some_masked, read_ask, read_page}
use Rattle.ur_pages.proofs.Listing.{filter_pages}
use Rattle.ur_pages.proofs.page.keep_unmasked.Goals as goal

pub returns-clause-kept : goal.returns-clause-kept
returns-clause-kept c =
    ap (map read_page)
    (filter_same _ (λ x. not (some_masked c.args.cache.now.masks (map read_ask x.asks))) _ (λ x b f' k. search rules) _ _ c.retain.ensures.filtered)
    ∙ filter_pages (λ r. not (some_masked c.args.cache.now.masks r.asks)) c.args.pages.now.items
