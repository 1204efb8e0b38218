-- The head, the body and the end of the page.
use Rattle.std.proofs.Common.{◌++◌, codes, ap, ◌∙◌}
use Rattle.std.specs.List.{flat_map}
use Rattle.ur_tags.specs.Show.{escape}
use Rattle.ur_tags.proofs.Pieces.{titled_is}
use Rattle.ur_tags.proofs.pages.show_text.Goals as goal

pub returns : goal.returns
returns c =
    let text = flat_map escape c.args.text.now in
    c.in_ok-extend_from_slice.ensures.ok ∙ ap (λ o. o ++ codes "</body></html>") (c.in_ok-push_text.ensures ∙ ap (λ o. o ++ text) c.in_ok-out.ensures)
    ∙ titled_is (flat_map escape c.args.title.now) text
