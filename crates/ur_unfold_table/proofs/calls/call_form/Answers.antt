use Rattle.std.proofs.Common.{◌++◌, map, refl, sym, ap, ◌∙◌}
use Rattle.std.specs.Option.{option_copied}
use Rattle.ur_tree.specs.declared.closed.Static.{out-Static}
use Rattle.ur_tree.specs.declared.closed.Static.TheVariants as st
use Rattle.ur_meaning.specs.declared.head.Head.TheVariants as head
use Rattle.ur_meaning.proofs.Going.{exit as go_exit}
use Rattle.ur_unfold_pieces.specs.Forming.{FormedAs}
use Rattle.ur_unfold_pieces.specs.Told.{told, exps_told}
use Rattle.ur_source.specs.Items.{applied_form, value_args}
use Rattle.ur_source.specs.Source.{source_of}
use Rattle.ur_unfold_pieces.proofs.Staying.{stays_so, instances_stay, moves_of, moves_then}
use Rattle.ur_unfold_table.proofs.Forming.{none_formed, exit}
use Rattle.ur_unfold_table.proofs.Calling.{unknown_formed, dynamic_formed, numbered_formed, unnumbered_formed}
use Rattle.ur_unfold_table.proofs.calls.call_form.Goals as goal

pub returns-in-None-clause-form : goal.returns-in-None-clause-form
returns-in-None-clause-form c = λ around cs at whole are. unknown_formed c.args.table.now c.args.scope around at whole c.args.args.now c.args.k c.args.cons cs are c.nothing.result (sym c.get.ensures.value ∙ ap option_copied c.in-None.is) (none_formed c.args.table.now c.args.table.now refl c.nothing.result c.nothing.ensures)

pub returns-in-None-clause-moves : goal.returns-in-None-clause-moves
returns-in-None-clause-moves c = moves_of c.args.table.now c.args.table.now (stays_so c.args.table.now)

pub returns-in_err-fixed_args-in-Some-clause-form : goal.returns-in_err-fixed_args-in-Some-clause-form
returns-in_err-fixed_args-in-Some-clause-form c = λ around cs at whole are. exit c.args.table.now c.fixed_args.new.table _ c.from_residual.result c.in_err-fixed_args-in-Some.field-0.0 c.from_residual.ensures.1 (c.in_err-fixed_args-in-Some.ensures.made around at whole)

pub returns-in-None-2-clause-form : goal.returns-in-None-2-clause-form
returns-in-None-2-clause-form c = λ around cs at whole are.
    dynamic_formed c.args.table.now c.args.scope around at whole c.args.args.now c.args.k c.args.cons cs are c.in-Some.function.now (sym c.get.ensures.value ∙ ap option_copied c.in-Some.is) c.fixed_args.new.table c.in_ok-fixed_args-in-Some.ensures.stays c.in_ok-fixed_args-in-Some.field-0 (c.in_ok-fixed_args-in-Some.ensures.made around at whole) c.nothing-in-None-2.result c.in-None-2.is
    (none_formed c.args.table.now c.fixed_args.new.table (instances_stay c.args.table.now c.fixed_args.new.table c.in_ok-fixed_args-in-Some.ensures.stays whole) c.nothing-in-None-2.result c.nothing-in-None-2.ensures)

pub returns-in_err-fixed_args-in-Some-clause-moves : goal.returns-in_err-fixed_args-in-Some-clause-moves
returns-in_err-fixed_args-in-Some-clause-moves c = moves_of c.args.table.now c.fixed_args.new.table c.in_err-fixed_args-in-Some.ensures.stays

pub returns-in-None-2-clause-moves : goal.returns-in-None-2-clause-moves
returns-in-None-2-clause-moves c = moves_of c.args.table.now c.fixed_args.new.table c.in_ok-fixed_args-in-Some.ensures.stays

pub returns-in_err-j-in-Some-2-clause-form : goal.returns-in_err-j-in-Some-2-clause-form
returns-in_err-j-in-Some-2-clause-form c = λ around cs at whole are.
    go_exit (FormedAs c.args.table.now c.number.new.self (applied_form (source_of c.args.table.now.typed.now) around c.args.args.now (out-Static (st.Function c.args.k cs)))) c.from_residual-in_err-j-in-Some-2.result c.in_err-j-in-Some-2.field-0.0 c.from_residual-in_err-j-in-Some-2.ensures.1
    (unnumbered_formed c.args.table.now c.args.scope around at whole c.args.args.now c.args.k c.args.cons cs are c.in-Some.function.now (sym c.get.ensures.value ∙ ap option_copied c.in-Some.is) c.fixed_args.new.table c.in_ok-fixed_args-in-Some.ensures.stays c.in_ok-fixed_args-in-Some.field-0 (c.in_ok-fixed_args-in-Some.ensures.made around at whole) c.in-Some-2.fixed c.in-Some-2.is c.number.new.self c.in_err-j-in-Some-2.ensures.moves.widens c.in_err-j-in-Some-2.field-0.0 c.in_err-j-in-Some-2.ensures.number)

pub returns-in_err-j-in-Some-2-clause-moves : goal.returns-in_err-j-in-Some-2-clause-moves
returns-in_err-j-in-Some-2-clause-moves c = moves_then c.args.table.now c.fixed_args.new.table c.number.new.self (moves_of c.args.table.now c.fixed_args.new.table c.in_ok-fixed_args-in-Some.ensures.stays) c.in_err-j-in-Some-2.ensures.moves

pub returns-in_err-push_values-in-Some-2-clause-form : goal.returns-in_err-push_values-in-Some-2-clause-form
returns-in_err-push_values-in-Some-2-clause-form c = λ around cs at whole are. exit c.args.table.now c.number.new.self _ c.from_residual-in_err-push_values-in-Some-2.result c.in_err-push_values-in-Some-2.field-0.0 c.from_residual-in_err-push_values-in-Some-2.ensures.1 c.in_err-push_values-in-Some-2.ensures

pub returns-in_err-push_values-in-Some-2-clause-moves : goal.returns-in_err-push_values-in-Some-2-clause-moves
returns-in_err-push_values-in-Some-2-clause-moves c = moves_then c.args.table.now c.fixed_args.new.table c.number.new.self (moves_of c.args.table.now c.fixed_args.new.table c.in_ok-fixed_args-in-Some.ensures.stays) c.in_ok-j-in-Some-2.ensures.moves

pub returns-in_ok-push_values-in-Some-2-clause-form : goal.returns-in_ok-push_values-in-Some-2-clause-form
returns-in_ok-push_values-in-Some-2-clause-form c = λ around cs at whole are.
    numbered_formed c.args.table.now c.args.scope around at whole c.args.args.now c.args.k c.args.cons cs are c.in-Some.function.now (sym c.get.ensures.value ∙ ap option_copied c.in-Some.is) c.fixed_args.new.table c.in_ok-fixed_args-in-Some.ensures.stays c.in_ok-fixed_args-in-Some.field-0 (c.in_ok-fixed_args-in-Some.ensures.made around at whole) c.in-Some-2.fixed c.in-Some-2.is c.number.new.self c.in_ok-j-in-Some-2.ensures.moves.widens c.in_ok-j-in-Some-2.j (record { head = head.Call c.in_ok-j-in-Some-2.j; parts = c.push_values.new.parts }) c.in_ok-j-in-Some-2.ensures.number refl
    (c.in_ok-push_values-in-Some-2.ensures ∙ ap (λ l. map told l ++ exps_told c.args.scope (value_args c.in-Some.function.now.params c.args.args.now)) c.new-parts.ensures)

pub returns-in_ok-push_values-in-Some-2-clause-moves : goal.returns-in_ok-push_values-in-Some-2-clause-moves
returns-in_ok-push_values-in-Some-2-clause-moves c = moves_then c.args.table.now c.fixed_args.new.table c.number.new.self (moves_of c.args.table.now c.fixed_args.new.table c.in_ok-fixed_args-in-Some.ensures.stays) c.in_ok-j-in-Some-2.ensures.moves
