-- The pieces, one after the other; the path shows as it is.
use Rattle.std.proofs.Common.{◌++◌, codes, sym, ap, ◌∙◌}
use Rattle.ur_tags.specs.Paths.{path}
use Rattle.ur_tags.proofs.Pieces.{written}
use Rattle.ur_tags.proofs.Plain.{path_shows_itself}
use Rattle.ur_tags.proofs.nodes.push_path_attribute.Goals as goal

pub returns : goal.returns
returns c =
    let out = c.args.out.now in
    let name = c.args.name.now in
    let shown = path c.args.handlers.now c.args.call.now in
    let named = written out _ _ (codes " ") name c.in_ok-push.ensures.ok c.in_ok-extend_from_slice.ensures.ok in
    let opened = written out _ _ (codes " " ++ name) (codes "=\"") named c.in_ok-extend_from_slice-2.ensures.ok in
    let filled = written out _ _ (codes " " ++ name ++ codes "=\"") shown opened c.in_ok-push_path.ensures in
    written out _ _ (codes " " ++ name ++ codes "=\"" ++ shown) (codes "\"") filled c.in_ok-push-2.ensures.ok
    ∙ ap (λ p. out ++ (codes " " ++ name ++ codes "=\"" ++ p ++ codes "\"")) (sym (path_shows_itself c.args.handlers.now c.args.call.now))
