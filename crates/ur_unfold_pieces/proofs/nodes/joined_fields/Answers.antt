use Rattle.std.proofs.Common.{sym, ap, subst, ◌∙◌}
use Rattle.ur_unfold_pieces.specs.Records.{numbers_together}
use Rattle.ur_unfold_pieces.proofs.Changes.{joined_there}
use Rattle.ur_unfold_pieces.proofs.nodes.joined_fields.Goals as goal

pub returns-in_ok-fields-in-Some-fields_of-2 : goal.returns-in_ok-fields-in-Some-fields_of-2
returns-in_ok-fields-in-Some-fields_of-2 c = λ s t a b. joined_there c.args.closing.now.statics c.in-Some.more.now c.in-Some-fields_of.fields.now c.in_ok-fields-in-Some-fields_of-2.fields s t (c.in_ok-fields-in-Some-fields_of-2.ensures ∙ ap (numbers_together c.in-Some.more.now) (c.in_ok-fields-in-Some-fields_of.ensures ∙ c.as_slice.ensures)) (c.in-Some.ensures s a) (c.in-Some-fields_of.ensures t b)
