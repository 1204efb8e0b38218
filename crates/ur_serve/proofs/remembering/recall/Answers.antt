use Rattle.std.proofs.Common.{position, sym, ap, ◌∙◌}
use Rattle.ur_pages.specs.Pages.{is_at}
use Rattle.ur_serve.proofs.Remembered.{found_within, recalled_by}
use Rattle.ur_serve.proofs.remembering.recall.Goals as goal

pub recall_at-requires : goal.recall_at-requires
recall_at-requires c =
    found_within c.args.request.now.path c.args.pages.now.list c.in-Some.place
    (ap (λ p. position (is_at p) c.args.pages.now.list) (sym c.as_slice.ensures) ∙ sym c.in-Some.ensures)

pub returns-in-Some : goal.returns-in-Some
returns-in-Some c =
    recalled_by c.args.request.now c.args.close c.args.cache.now c.recall_at.new.cache c.args.pages.now.list c.recall_at.new.pages.list c.in-Some.place c.recall_at.result
    (sym c.only_shows.ensures ∙ c.if-not-only_shows.false)
    (ap (λ p. position (is_at p) c.args.pages.now.list) (sym c.as_slice.ensures) ∙ sym c.in-Some.ensures) c.recall_at.ensures
