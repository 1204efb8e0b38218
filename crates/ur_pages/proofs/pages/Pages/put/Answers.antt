use Rattle.std.proofs.Common.{◌≡◌, List, [], ◌∷◌, ◌++◌, map, sym, ap, ◌∙◌, rules}
use Rattle.std.proofs.lemmas.List.{take-map}
use Rattle.ur_pages.specs.Pages.{Pages, Remembered, read_page}
use Rattle.ur_pages.proofs.pages.Pages.put.Goals as goal

pub returns-clause-ok : goal.returns-clause-ok
returns-clause-ok c =
    let es = c.self.inside.list.items in
    let pushed : c.push.new.self.items ≡ es ++ c.args.page ∷ [] = search rules in
    rw (← c.self.view_is) (ap (λ (l : List Remembered). record { most = c.self.inside.most; list = l })
    (ap (map read_page) (c.put_to_front.ensures es c.args.page pushed) ∙ sym (take-map read_page c.self.inside.most (c.args.page ∷ es))))
