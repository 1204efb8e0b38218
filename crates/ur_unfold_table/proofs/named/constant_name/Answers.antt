use Rattle.ur_meaning.proofs.Going.{exit}
use Rattle.ur_unfold_pieces.specs.Forming.{OpensExp}
use Rattle.ur_unfold_pieces.proofs.Staying.{stays_then}
use Rattle.ur_unfold_table.proofs.Naming.{name_stops, opens_after}
use Rattle.ur_unfold_table.proofs.named.constant_name.Goals as goal

pub returns-in_err-_numbers-clause-form : goal.returns-in_err-_numbers-clause-form
returns-in_err-_numbers-clause-form c = λ f at none is.
    exit (OpensExp c.args.table.now c.cons_in.new.table c.args.scope c.args.e.now) c.from_residual.result c.in_err-_numbers.field-0.0 c.from_residual.ensures.1
    (name_stops c.args.table.now c.cons_in.new.table c.args.scope c.args.e.now c.args.k c.args.cons.now f c.cons_in.new.table.closing c.in_err-_numbers.field-0.0 is at none c.in_err-_numbers.ensures.made)

pub returns-clause-form : goal.returns-clause-form
returns-clause-form c = λ f at none is.
    opens_after c.args.table.now c.cons_in.new.table c.static_form.new.table c.args.scope c.args.e.now c.args.k c.args.cons.now c.static_form.result c.in_ok-_numbers.ensures.stays is c.static_form.ensures.form

pub returns-clause-stays : goal.returns-clause-stays
returns-clause-stays c = stays_then c.args.table.now c.cons_in.new.table c.static_form.new.table c.in_ok-_numbers.ensures.stays c.static_form.ensures.stays
