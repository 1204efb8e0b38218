use Rattle.ur_tags.proofs.Telling.{name_by}
use Rattle.ur_tags.proofs.routes.is_name.Goals as goal

pub returns : goal.returns
returns c = name_by c.args.bytes.now c.is_empty.result c.is_text.result c.is_empty.ensures c.if-is_empty.false c.is_text.ensures
