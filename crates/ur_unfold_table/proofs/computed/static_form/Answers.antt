use Rattle.ur_meaning.specs.Form.{no_form}
use Rattle.ur_source.specs.Items.{static_in}
use Rattle.ur_source.specs.Source.{source_of}
use Rattle.ur_unfold_pieces.proofs.Staying.{instances_stay}
use Rattle.ur_unfold_table.proofs.Forming.{none_formed, exit}
use Rattle.ur_unfold_table.proofs.Formed.{found_formed, value_formed}
use Rattle.ur_unfold_table.proofs.computed.static_form.Goals as goal

pub returns-in_err-static_in-clause-form : goal.returns-in_err-static_in-clause-form
returns-in_err-static_in-clause-form c = λ around at whole. exit c.args.table.now c.static_in.new.table _ c.from_residual.result c.in_err-static_in.field-0.0 c.from_residual.ensures.1 (c.in_err-static_in.ensures.made around at whole)

pub returns-in-None-clause-form : goal.returns-in-None-clause-form
returns-in-None-clause-form c = λ around at whole.
    value_formed c.args.table.now c.static_in.new.table (static_in (source_of c.args.table.now.typed.now) around c.args.e.now) no_form c.in_ok-static_in.field-0 c.nothing.result c.in-None.is (c.in_ok-static_in.ensures.made around at whole)
    (none_formed c.args.table.now c.static_in.new.table (instances_stay c.args.table.now c.static_in.new.table c.in_ok-static_in.ensures.stays whole) c.nothing.result c.nothing.ensures)

pub returns-in-Some-clause-form : goal.returns-in-Some-clause-form
returns-in-Some-clause-form c = λ around at whole.
    found_formed c.args.table.now c.static_in.new.table (instances_stay c.args.table.now c.static_in.new.table c.in_ok-static_in.ensures.stays whole) (static_in (source_of c.args.table.now.typed.now) around c.args.e.now) no_form c.in_ok-static_in.field-0 c.in-Some.number c.one.result c.in-Some.is
    (c.in_ok-static_in.ensures.made around at whole) c.one.ensures
