-- The pieces, one after the other.
use Rattle.std.proofs.Common.{◌≡◌, ◌++◌, codes}
use Rattle.ur_tags.specs.Paths.{path}
use Rattle.ur_tags.specs.Show.{attribute, attribute_if_any}
use Rattle.ur_tags.proofs.Pieces.{written}
use Rattle.ur_tags.proofs.nodes.push_submit.Goals as goal

pub returns : goal.returns
returns c =
    let out = c.args.out.now in
    let action = path c.args.handlers.now c.args.call.now in
    let opened : c.push_open.new.out ≡ out ++ codes "<input" = c.in_ok-push_open.ensures in
    let typed = written out _ _ _ (attribute (codes "type") (codes "submit")) opened c.in_ok-push_attribute.ensures in
    let sent : c.push_path_attribute.new.out ≡ c.push_attribute.new.out ++ attribute (codes "formaction") action = c.in_ok-push_path_attribute.ensures in
    let label = attribute_if_any (codes "value") c.args.label.now in
    let labelled = written c.push_attribute.new.out _ _ (attribute (codes "formaction") action) label sent c.in_ok-push_attribute_if_any.ensures in
    let whole = written out _ _ _ (attribute (codes "formaction") action ++ label) typed labelled in
    written out _ _ _ (codes "/>") whole c.in_ok-extend_from_slice.ensures.ok
