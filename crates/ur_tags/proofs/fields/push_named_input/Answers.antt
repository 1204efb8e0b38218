-- The pieces, one after the other.
use Rattle.std.proofs.Common.{◌≡◌, ◌++◌, codes}
use Rattle.ur_tags.specs.Show.{attribute, attribute_if_any}
use Rattle.ur_tags.proofs.Pieces.{written}
use Rattle.ur_tags.proofs.fields.push_named_input.Goals as goal

pub returns : goal.returns
returns c =
    let out = c.args.out.now in
    let opened : c.push_open.new.out ≡ out ++ codes "<input" = c.in_ok-push_open.ensures in
    let typed = written out _ _ _ (attribute (codes "type") c.args.kind.now) opened c.in_ok-push_attribute.ensures in
    let named = written _ _ _ _ (attribute_if_any (codes "value") c.args.value.now) c.in_ok-push_attribute-2.ensures c.in_ok-push_attribute_if_any.ensures in
    written out _ _ _ (codes "/>") (written out _ _ _ _ typed named) c.in_ok-extend_from_slice.ensures.ok
