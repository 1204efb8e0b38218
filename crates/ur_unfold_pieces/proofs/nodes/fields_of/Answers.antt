use Rattle.std.proofs.Common.{List, Option, ap, subst}
use Rattle.ur_source.specs.Static.{as_static_fields}
use Rattle.ur_unfold_static.specs.declared.node.Field.{Field}
use Rattle.ur_unfold_pieces.specs.Closes.{FieldsMayBe}
use Rattle.ur_unfold_pieces.proofs.Fields.{node_fields, fields_at}
use Rattle.ur_unfold_pieces.proofs.nodes.fields_of.Goals as goal

pub returns-in-Record : goal.returns-in-Record
returns-in-Record c = λ s h. subst (λ (f : Option (List Field)). FieldsMayBe c.args.closing.now.statics f (as_static_fields s)) (ap node_fields c.in-Record.is) (fields_at c.args.closing.now c.args.number c.in-Some.node.now c.in-Some.ensures.0 c.in-Some.ensures.1 s h)

pub returns-in-Int : goal.returns-in-Int
returns-in-Int c = λ s h. subst (λ (f : Option (List Field)). FieldsMayBe c.args.closing.now.statics f (as_static_fields s)) (ap node_fields c.in-Int.is) (fields_at c.args.closing.now c.args.number c.in-Some.node.now c.in-Some.ensures.0 c.in-Some.ensures.1 s h)

pub returns-in-Str : goal.returns-in-Str
returns-in-Str c = λ s h. subst (λ (f : Option (List Field)). FieldsMayBe c.args.closing.now.statics f (as_static_fields s)) (ap node_fields c.in-Str.is) (fields_at c.args.closing.now c.args.number c.in-Some.node.now c.in-Some.ensures.0 c.in-Some.ensures.1 s h)

pub returns-in-Bool : goal.returns-in-Bool
returns-in-Bool c = λ s h. subst (λ (f : Option (List Field)). FieldsMayBe c.args.closing.now.statics f (as_static_fields s)) (ap node_fields c.in-Bool.is) (fields_at c.args.closing.now c.args.number c.in-Some.node.now c.in-Some.ensures.0 c.in-Some.ensures.1 s h)

pub returns-in-Function : goal.returns-in-Function
returns-in-Function c = λ s h. subst (λ (f : Option (List Field)). FieldsMayBe c.args.closing.now.statics f (as_static_fields s)) (ap node_fields c.in-Function.is) (fields_at c.args.closing.now c.args.number c.in-Some.node.now c.in-Some.ensures.0 c.in-Some.ensures.1 s h)

pub returns-in-Lambda : goal.returns-in-Lambda
returns-in-Lambda c = λ s h. subst (λ (f : Option (List Field)). FieldsMayBe c.args.closing.now.statics f (as_static_fields s)) (ap node_fields c.in-Lambda.is) (fields_at c.args.closing.now c.args.number c.in-Some.node.now c.in-Some.ensures.0 c.in-Some.ensures.1 s h)
