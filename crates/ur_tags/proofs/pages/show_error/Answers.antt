-- The head, the body and the end of the page.
use Rattle.std.proofs.Common.{◌++◌, codes, ap, ◌∙◌}
use Rattle.ur_tags.specs.Show.{show_markup}
use Rattle.ur_tags.proofs.Pieces.{titled_is}
use Rattle.ur_tags.proofs.pages.show_error.Goals as goal

pub returns : goal.returns
returns c =
    let body = show_markup c.args.handlers.now c.args.body.now in
    c.in_ok-extend_from_slice.ensures.ok ∙ ap (λ o. o ++ codes "</body></html>") (c.in_ok-push_markup.ensures ∙ ap (λ o. o ++ body) c.in_ok-out.ensures)
    ∙ titled_is (codes "Error") body
