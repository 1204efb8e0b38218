use Rattle.ur_tree.specs.declared.exp.Exp.TheVariants as x
use Rattle.ur_source.specs.Items.{is_computed, only_where, static_in}
use Rattle.ur_source.specs.Source.{source_of}
use Rattle.ur_unfold_pieces.proofs.Staying.{instances_stay}
use Rattle.ur_unfold_table.specs.Recording.{cut_value}
use Rattle.ur_unfold_table.proofs.Forms.{form-Cut}
use Rattle.ur_unfold_table.proofs.Forming.{exit}
use Rattle.ur_unfold_table.proofs.Formed.{found_formed, value_formed}
use Rattle.ur_unfold_table.proofs.Computing.{is_computed_here, opens_computed, formed_later}
use Rattle.ur_unfold_table.proofs.computed.cut_form.Goals as goal

pub returns-in_err-number-clause-form : goal.returns-in_err-number-clause-form
returns-in_err-number-clause-form c = λ is scope at whole. exit c.args.table.now c.computed_in.new.table _ c.from_residual.result c.in_err-number.field-0.0 c.from_residual.ensures.1 (c.in_err-number.ensures.made scope at whole)

pub returns-in-Some-clause-form : goal.returns-in-Some-clause-form
returns-in-Some-clause-form c = λ is.
    opens_computed c.args.table.now c.computed_in.new.table c.args.scope c.args.e.now (x.Cut c.args.a.now c.args.label.now) c.names_static-is_computed.result (is_computed (source_of c.args.table.now.typed.now) c.args.a.now) (λ scope. cut_value (source_of c.args.table.now.typed.now) scope c.args.a.now c.args.label.now) c.one.result is
    (is_computed_here c.args.table.now.typed.now c.args.a.now c.get.result.now c.names_static-is_computed.result c.names_static-is_computed.ensures c.get.ensures) (λ scope. form-Cut (source_of c.args.table.now.typed.now) scope c.args.a.now c.args.label.now)
    (λ scope at whole. found_formed c.args.table.now c.computed_in.new.table (instances_stay c.args.table.now c.computed_in.new.table c.in_ok-number.ensures.stays whole) (only_where c.names_static-is_computed.result (static_in (source_of c.args.table.now.typed.now) scope c.args.e.now)) (cut_value (source_of c.args.table.now.typed.now) scope c.args.a.now c.args.label.now) c.in_ok-number.field-0 c.in-Some.number c.one.result c.in-Some.is
    (c.in_ok-number.ensures.made scope at whole) c.one.ensures)

pub returns-in-None-clause-form : goal.returns-in-None-clause-form
returns-in-None-clause-form c = λ is.
    opens_computed c.args.table.now c.computed_in.new.table c.args.scope c.args.e.now (x.Cut c.args.a.now c.args.label.now) c.names_static-is_computed.result (is_computed (source_of c.args.table.now.typed.now) c.args.a.now) (λ scope. cut_value (source_of c.args.table.now.typed.now) scope c.args.a.now c.args.label.now) c.value_cut.result is
    (is_computed_here c.args.table.now.typed.now c.args.a.now c.get.result.now c.names_static-is_computed.result c.names_static-is_computed.ensures c.get.ensures) (λ scope. form-Cut (source_of c.args.table.now.typed.now) scope c.args.a.now c.args.label.now)
    (λ scope at whole. value_formed c.args.table.now c.computed_in.new.table (only_where c.names_static-is_computed.result (static_in (source_of c.args.table.now.typed.now) scope c.args.e.now)) (cut_value (source_of c.args.table.now.typed.now) scope c.args.a.now c.args.label.now) c.in_ok-number.field-0 c.value_cut.result c.in-None.is (c.in_ok-number.ensures.made scope at whole)
    (formed_later c.args.table.now c.computed_in.new.table c.computed_in.new.table c.args.scope scope (λ p. cut_value p scope c.args.a.now c.args.label.now) c.value_cut.result c.in_ok-number.ensures.stays at whole (λ later still. c.value_cut.ensures scope later still)))
