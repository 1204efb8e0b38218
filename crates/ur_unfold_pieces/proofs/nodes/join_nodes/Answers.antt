use Rattle.std.proofs.Common.{List, Option, subst}
use Rattle.ur_tree.specs.declared.closed.Static.{Static}
use Rattle.ur_unfold_static.specs.declared.node.Field.{Field}
use Rattle.ur_unfold_static.specs.Scopes.{IsAt}
use Rattle.ur_unfold_pieces.specs.Closes.{FieldsMayBe, fields_joined}
use Rattle.ur_unfold_static.proofs.Laws.{grows_so}
use Rattle.ur_unfold_pieces.proofs.Changes.{join_none, join_some}
use Rattle.ur_unfold_pieces.proofs.nodes.join_nodes.Goals as goal

pub returns-in_err-joined_fields-clause-grows : goal.returns-in_err-joined_fields-clause-grows
returns-in_err-joined_fields-clause-grows c = grows_so c.args.closing.now

pub returns-in-None-clause-made : goal.returns-in-None-clause-made
returns-in-None-clause-made c = λ s t a b. join_none s t ((subst (λ (f : Option (List Field)). (s t : Static) → IsAt c.args.closing.now.statics c.args.left s → IsAt c.args.closing.now.statics c.args.right t → FieldsMayBe c.args.closing.now.statics f (fields_joined s t)) c.in-None.is c.in_ok-joined_fields.ensures) s t a b)

pub returns-in-None-clause-grows : goal.returns-in-None-clause-grows
returns-in-None-clause-grows c = grows_so c.args.closing.now

pub returns-in-Some-clause-made : goal.returns-in-Some-clause-made
returns-in-Some-clause-made c = join_some c.args.closing.now c.some_added.new.closing c.args.left c.args.right c.in-Some.fields c.some_added.result (subst (λ (f : Option (List Field)). (s t : Static) → IsAt c.args.closing.now.statics c.args.left s → IsAt c.args.closing.now.statics c.args.right t → FieldsMayBe c.args.closing.now.statics f (fields_joined s t)) c.in-Some.is c.in_ok-joined_fields.ensures) c.some_added.ensures.made
