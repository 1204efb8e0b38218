use Rattle.std.proofs.Common.{List, map, sym, ap, ◌∙◌}
use Rattle.ur_pages.specs.declared.page.Ask.{Ask}
use Rattle.ur_pages.specs.Pages.{read_ask, read_page, are_there}
use Rattle.ur_serve.proofs.Remembered.{recalled_front, front_there}
use Rattle.ur_serve.proofs.remembering.recall_at.Goals as goal

pub at-requires-2 : goal.at-requires-2
at-requires-2 c = front_there c.args.pages.now.list c.bring.new.self.list c.args.place (read_page c.at.result.now) c.at.ensures c.bring.ensures.front

pub returns : goal.returns
returns c =
    recalled_front c.args.request.now c.args.close c.args.cache.now c.from_page-reply.new.cache c.args.pages.now.list c.bring.new.self.list c.args.place
    (read_page c.at.result.now) (read_page c.at-2.result.now) c.from_page-reply.result c.at.ensures
    (ap (λ (l : List Ask). are_there c.args.cache.now.entries (map read_ask l)) (sym c.as_slice.ensures) ∙ sym c.are_there.ensures ∙ c.if-not-are_there.false)
    c.bring.ensures.front c.at-2.ensures c.from_page-reply.ensures
