use Rattle.std.proofs.Common.{List, ◌++◌, ap, ◌∙◌}
use Rattle.ur_unfold_static.specs.declared.node.Field.{Field}
use Rattle.ur_unfold_pieces.specs.Records.{without_number}
use Rattle.ur_unfold_pieces.proofs.Changes.{others_there}
use Rattle.ur_unfold_pieces.proofs.nodes.others_of.Goals as goal

pub returns-in_ok-push_others-in-Some : goal.returns-in_ok-push_others-in-Some
returns-in_ok-push_others-in-Some c = λ s h. others_there c.args.closing.now.statics c.args.name c.in-Some.fields.now c.push_others.new.others s (c.in_ok-push_others-in-Some.ensures ∙ ap (λ (l : List Field). l ++ without_number c.args.name c.in-Some.fields.now) c.new-others.ensures) (c.in-Some.ensures s h)
