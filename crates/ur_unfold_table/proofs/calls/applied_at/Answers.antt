use Rattle.std.proofs.Common.{sym, subst, ◌∙◌}
use Rattle.ur_tree.specs.declared.closed.Static.{Static}
use Rattle.ur_unfold_static.specs.declared.node.Node.{Node}
use Rattle.ur_unfold_static.specs.declared.node.Node.TheVariants as node
use Rattle.ur_unfold_static.specs.Held.{static_of_node, NodeFits}
use Rattle.ur_unfold_static.specs.Scopes.{IsAt}
use Rattle.ur_unfold_pieces.specs.Keys.{Gives}
use Rattle.ur_unfold_pieces.proofs.Lists.{the_same}
use Rattle.ur_unfold_table.specs.Applying.{IsApplied}
use Rattle.ur_unfold_table.proofs.Applies.{applied-Int, applied-Str, applied-Bool, applied-Record, applied-Function, applied-Lambda}
use Rattle.ur_unfold_table.proofs.calls.applied_at.Goals as goal

pub returns-in-Int : goal.returns-in-Int
returns-in-Int c = λ s there. applied-Int c.args.closing.now c.in-Int.field-0 s (the_same (static_of_node c.args.closing.now (node.Int c.in-Int.field-0)) s (sym (subst (λ (m : Node). IsAt c.args.closing.now.statics c.args.at (static_of_node c.args.closing.now m)) c.in-Int.is c.in-Some.ensures.1) ∙ there))

pub returns-in-Str : goal.returns-in-Str
returns-in-Str c = λ s there. applied-Str c.args.closing.now c.in-Str.field-0 s (the_same (static_of_node c.args.closing.now (node.Str c.in-Str.field-0)) s (sym (subst (λ (m : Node). IsAt c.args.closing.now.statics c.args.at (static_of_node c.args.closing.now m)) c.in-Str.is c.in-Some.ensures.1) ∙ there))

pub returns-in-Bool : goal.returns-in-Bool
returns-in-Bool c = λ s there. applied-Bool c.args.closing.now c.in-Bool.field-0 s (the_same (static_of_node c.args.closing.now (node.Bool c.in-Bool.field-0)) s (sym (subst (λ (m : Node). IsAt c.args.closing.now.statics c.args.at (static_of_node c.args.closing.now m)) c.in-Bool.is c.in-Some.ensures.1) ∙ there))

pub returns-in-Record : goal.returns-in-Record
returns-in-Record c = λ s there. applied-Record c.args.closing.now c.in-Record.field-0 s (the_same (static_of_node c.args.closing.now (node.Record c.in-Record.field-0)) s (sym (subst (λ (m : Node). IsAt c.args.closing.now.statics c.args.at (static_of_node c.args.closing.now m)) c.in-Record.is c.in-Some.ensures.1) ∙ there))

pub returns-in_ok-cons-in-Function : goal.returns-in_ok-cons-in-Function
returns-in_ok-cons-in-Function c = λ s there.
    applied-Function c.args.closing.now c.in-Function.k c.in-Function.cons c.in_ok-cons-in-Function.cons s (subst (NodeFits c.args.closing.now) c.in-Function.is c.in-Some.ensures.0) (c.in_ok-cons-in-Function.ensures ∙ c.as_slice.ensures) (the_same (static_of_node c.args.closing.now (node.Function c.in-Function.k c.in-Function.cons)) s (sym (subst (λ (m : Node). IsAt c.args.closing.now.statics c.args.at (static_of_node c.args.closing.now m)) c.in-Function.is c.in-Some.ensures.1) ∙ there))

pub returns-in-Lambda : goal.returns-in-Lambda
returns-in-Lambda c = λ s there.
    applied-Lambda c.args.closing.now (λ (t : Static). Gives (λ what. IsApplied c.args.closing.now what t) c.lambda_at.result) c.in-Lambda.of c.in-Lambda.cons c.in-Lambda.fixed s (subst (NodeFits c.args.closing.now) c.in-Lambda.is c.in-Some.ensures.0)
    (the_same (static_of_node c.args.closing.now (node.Lambda c.in-Lambda.of c.in-Lambda.cons c.in-Lambda.fixed)) s (sym (subst (λ (m : Node). IsAt c.args.closing.now.statics c.args.at (static_of_node c.args.closing.now m)) c.in-Lambda.is c.in-Some.ensures.1) ∙ there)) (λ w cs ss at h g. c.lambda_at.ensures w cs ss at h g)
