use Rattle.std.proofs.Common.{List, Option, option_map, subst}
use Rattle.ur_terms.specs.Values.{without_field}
use Rattle.ur_tree.specs.declared.closed.Static.{Static}
use Rattle.ur_source.specs.Static.{as_static_fields}
use Rattle.ur_unfold_static.specs.declared.node.Field.{Field}
use Rattle.ur_unfold_static.specs.Scopes.{IsAt}
use Rattle.ur_unfold_pieces.specs.Closes.{FieldsMayBe}
use Rattle.ur_unfold_static.proofs.Laws.{grows_so}
use Rattle.ur_unfold_pieces.proofs.Changes.{cut_some}
use Rattle.ur_unfold_pieces.proofs.nodes.cut_node.Goals as goal

pub returns-in_err-others_of-clause-grows : goal.returns-in_err-others_of-clause-grows
returns-in_err-others_of-clause-grows c = grows_so c.args.closing.now

pub returns-in-None-clause-grows : goal.returns-in-None-clause-grows
returns-in-None-clause-grows c = grows_so c.args.closing.now

pub returns-in-Some-clause-made : goal.returns-in-Some-clause-made
returns-in-Some-clause-made c = cut_some c.args.closing.now c.some_added.new.closing c.args.name c.args.number c.in-Some.fields c.some_added.result (subst (λ (f : Option (List Field)). (s : Static) → IsAt c.args.closing.now.statics c.args.number s → FieldsMayBe c.args.closing.now.statics f (option_map (without_field c.args.name) (as_static_fields s))) c.in-Some.is c.in_ok-others_of.ensures) c.some_added.ensures.made
