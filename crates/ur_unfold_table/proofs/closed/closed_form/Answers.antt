use Rattle.std.proofs.Common.{ℤ, w64, rules, [], map, refl, sym, subst, ◌∙◌}
use Rattle.std.specs.Prelude.{FitsSigned}
use Rattle.std.proofs.lemmas.Int.{to_z-of_z}
use Rattle.ur_rows.specs.declared.normal.Normal.TheVariants as normal
use Rattle.ur_rows.specs.Made.{unit}
use Rattle.ur_terms.specs.declared.term.Op.TheVariants as op
use Rattle.ur_meaning.specs.Form.{int_form, text_form, bool_form, no_form}
use Rattle.ur_meaning.specs.declared.head.Head.TheVariants as head
use Rattle.ur_meaning.specs.Heads as heads
use Rattle.ur_unfold_static.specs.declared.node.Field.{Field}
use Rattle.ur_unfold_static.specs.declared.node.Node.{Node}
use Rattle.ur_unfold_static.specs.declared.node.Node.TheVariants as node
use Rattle.ur_unfold_static.specs.Held.{con_at, static_of_node, NodeFits}
use Rattle.ur_unfold_static.specs.Scopes.{IsAt, AreAt}
use Rattle.ur_unfold_pieces.specs.Told.{closed}
use Rattle.ur_unfold_pieces.proofs.Lists.{below_at}
use Rattle.ur_unfold_pieces.proofs.Staying.{stays_so, moves_of}
use Rattle.ur_unfold_table.specs.Opened.{IsOpened}
use Rattle.ur_unfold_table.proofs.Forming.{opened_formed, none_formed, strict_formed}
use Rattle.ur_unfold_table.proofs.Constant.{opens_node, node-Int, node-Str, node-Bool, node-Lambda, node-Record, fields_say, field_items}
use Rattle.ur_unfold_table.proofs.closed.closed_form.Goals as goal

pub returns-in-Int-clause-form : goal.returns-in-Int-clause-form
returns-in-Int-clause-form c =
    let fits : FitsSigned w64 c.in-Int.n = search rules in
    opens_node c.args.table.now c.args.table.now c.args.number (node.Int c.in-Int.n) (int_form c.in-Int.n) c.leaf.result (subst (λ (m : Node). IsAt c.args.table.now.closing.statics c.args.number (static_of_node c.args.table.now.closing m)) c.in-Int.is c.in-Some.ensures.1) (node-Int c.args.table.now.typed.now.functions c.args.table.now.closing c.in-Int.n)
    (λ whole. opened_formed c.args.table.now c.args.table.now refl (head.Int c.in-Int.n) [] [] (int_form c.in-Int.n) c.leaf.result (subst (λ (n : ℤ). IsOpened (head.Int n) [] c.leaf.result) (to_z-of_z w64 c.in-Int.n fits) c.leaf.ensures) tt (heads.int c.in-Int.n) refl)

pub returns-in-Bool-clause-form : goal.returns-in-Bool-clause-form
returns-in-Bool-clause-form c =
    opens_node c.args.table.now c.args.table.now c.args.number (node.Bool c.in-Bool.b) (bool_form c.in-Bool.b) c.leaf-in-Bool.result (subst (λ (m : Node). IsAt c.args.table.now.closing.statics c.args.number (static_of_node c.args.table.now.closing m)) c.in-Bool.is c.in-Some.ensures.1) (node-Bool c.args.table.now.typed.now.functions c.args.table.now.closing c.in-Bool.b)
    (λ whole. opened_formed c.args.table.now c.args.table.now refl (head.Bool c.in-Bool.b) [] [] (bool_form c.in-Bool.b) c.leaf-in-Bool.result c.leaf-in-Bool.ensures tt (heads.bool c.in-Bool.b) refl)

pub returns-in-Str-clause-form : goal.returns-in-Str-clause-form
returns-in-Str-clause-form c =
    opens_node c.args.table.now c.args.table.now c.args.number (node.Str c.in-Str.text) (text_form c.in-Str.text) c.text_form.result (subst (λ (m : Node). IsAt c.args.table.now.closing.statics c.args.number (static_of_node c.args.table.now.closing m)) c.in-Str.is c.in-Some.ensures.1) (node-Str c.args.table.now.typed.now.functions c.args.table.now.closing c.in-Str.text)
    (λ whole. opened_formed c.args.table.now c.args.table.now refl (head.Text c.in-Str.text) [] [] (text_form c.in-Str.text) c.text_form.result c.text_form.ensures tt (heads.text c.in-Str.text) refl)

pub returns-in-Lambda-clause-form : goal.returns-in-Lambda-clause-form
returns-in-Lambda-clause-form c =
    opens_node c.args.table.now c.args.table.now c.args.number (node.Lambda c.in-Lambda.of c.in-Lambda.cons c.in-Lambda.fixed) no_form c.nothing.result (subst (λ (m : Node). IsAt c.args.table.now.closing.statics c.args.number (static_of_node c.args.table.now.closing m)) c.in-Lambda.is c.in-Some.ensures.1)
    (node-Lambda c.args.table.now.typed.now.functions c.args.table.now.closing c.in-Lambda.of c.in-Lambda.cons c.in-Lambda.fixed (subst (NodeFits c.args.table.now.closing) c.in-Lambda.is c.in-Some.ensures.0))
    (λ whole. none_formed c.args.table.now c.args.table.now refl c.nothing.result c.nothing.ensures)

pub returns-in-Record-clause-form : goal.returns-in-Record-clause-form
returns-in-Record-clause-form c =
    opens_node c.args.table.now c.args.table.now c.args.number (node.Record c.in-Record.fields) _ c.record_form.result (subst (λ (m : Node). IsAt c.args.table.now.closing.statics c.args.number (static_of_node c.args.table.now.closing m)) c.in-Record.is c.in-Some.ensures.1) (node-Record c.args.table.now.typed.now.functions c.args.table.now.closing c.in-Record.fields)
    (λ whole. strict_formed c.args.table.now c.args.table.now refl (op.Record (map (λ (f : Field). f.name) c.in-Record.fields)) (map (λ (f : Field). closed f.of) c.in-Record.fields) (field_items c.args.table.now.typed.now.functions c.args.table.now.closing c.in-Record.fields) c.record_form.result c.record_form.ensures
    (fields_say c.args.table.now.typed.now.functions c.args.table.now.closing c.args.table.now refl c.in-Record.fields (subst (NodeFits c.args.table.now.closing) c.in-Record.is c.in-Some.ensures.0)))

pub returns-in_ok-cons-in-Function-clause-form : goal.returns-in_ok-cons-in-Function-clause-form
returns-in_ok-cons-in-Function-clause-form c =
    let fits = subst (NodeFits c.args.table.now.closing) c.in-Function.is c.in-Some.ensures.0 in
    let cs = map (con_at c.args.table.now.closing.cons) c.in-Function.cons in
    opens_node c.args.table.now c.constant_form.new.table c.args.number (node.Function c.in-Function.k c.in-Function.cons) _ c.constant_form.result (subst (λ (m : Node). IsAt c.args.table.now.closing.statics c.args.number (static_of_node c.args.table.now.closing m)) c.in-Function.is c.in-Some.ensures.1) refl
    (λ whole. c.constant_form.ensures.form cs whole (subst (λ l. AreAt c.args.table.now.closing.cons l cs) (sym (c.in_ok-cons-in-Function.ensures ∙ c.as_slice.ensures)) (below_at (normal.Type unit) c.args.table.now.closing.cons c.in-Function.cons fits)))

pub returns-in-None-clause-moves : goal.returns-in-None-clause-moves
returns-in-None-clause-moves c = moves_of c.args.table.now c.args.table.now (stays_so c.args.table.now)

pub returns-in-Int-clause-moves : goal.returns-in-Int-clause-moves
returns-in-Int-clause-moves c = moves_of c.args.table.now c.args.table.now (stays_so c.args.table.now)

pub returns-in-Str-clause-moves : goal.returns-in-Str-clause-moves
returns-in-Str-clause-moves c = moves_of c.args.table.now c.args.table.now (stays_so c.args.table.now)

pub returns-in-Bool-clause-moves : goal.returns-in-Bool-clause-moves
returns-in-Bool-clause-moves c = moves_of c.args.table.now c.args.table.now (stays_so c.args.table.now)

pub returns-in-Lambda-clause-moves : goal.returns-in-Lambda-clause-moves
returns-in-Lambda-clause-moves c = moves_of c.args.table.now c.args.table.now (stays_so c.args.table.now)

pub returns-in-Record-clause-moves : goal.returns-in-Record-clause-moves
returns-in-Record-clause-moves c = moves_of c.args.table.now c.args.table.now (stays_so c.args.table.now)

pub returns-in_err-cons-in-Function-clause-moves : goal.returns-in_err-cons-in-Function-clause-moves
returns-in_err-cons-in-Function-clause-moves c = moves_of c.args.table.now c.args.table.now (stays_so c.args.table.now)
