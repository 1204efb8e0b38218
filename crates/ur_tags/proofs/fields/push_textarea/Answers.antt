-- The pieces, one after the other; nothing stands between the tags.
use Rattle.std.proofs.Common.{codes, [], sym, append-nil}
use Rattle.ur_tags.specs.Show.{attribute}
use Rattle.ur_tags.proofs.Pieces.{around_written}
use Rattle.ur_tags.proofs.fields.push_textarea.Goals as goal

pub returns : goal.returns
returns c =
    around_written c.args.out.now _ _ _ _ _ (codes "textarea") (attribute (codes "name") c.args.name.now) [] c.in_ok-push_open.ensures c.in_ok-push_attribute.ensures
    c.in_ok-push.ensures.ok (sym (append-nil _)) c.in_ok-push_close.ensures
