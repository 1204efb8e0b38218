use Rattle.ur_unfold_pieces.proofs.Changes.{field_there}
use Rattle.ur_unfold_pieces.proofs.nodes.field_in.Goals as goal

pub returns-in-Some : goal.returns-in-Some
returns-in-Some c = λ s h. field_there c.args.closing.now.statics c.args.name c.in-Some.fields.now c.field_at.result s c.field_at.ensures (c.in-Some.ensures s h)
