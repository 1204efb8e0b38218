use Rattle.std.proofs.Common.{◌++◌, map, Ok, refl, ap, ◌∙◌}
use Rattle.ur_meaning.specs.Form.{call_form}
use Rattle.ur_source.specs.Items.{exps, value_args}
use Rattle.ur_meaning.specs.declared.head.Head.TheVariants as head
use Rattle.ur_meaning.proofs.Going.{exit}
use Rattle.ur_unfold_pieces.specs.Forming.{FormedAs}
use Rattle.ur_unfold_pieces.specs.Keys.{instance_of}
use Rattle.ur_unfold_pieces.specs.Told.{told, exps_told}
use Rattle.ur_unfold_pieces.proofs.Staying.{stays_so, scope_stays}
use Rattle.ur_unfold_table.proofs.Called.{called_formed, call_stops}
use Rattle.ur_unfold_table.proofs.Forming.{no_memory}
use Rattle.ur_unfold_table.proofs.Telling.{exps_say}
use Rattle.ur_unfold_table.proofs.named.called.Goals as goal

pub returns-in_err-number-clause-form : goal.returns-in_err-number-clause-form
returns-in_err-number-clause-form c = λ around at whole.
    let items = exps around (value_args c.args.params.now c.args.args.now) in
    let k = instance_of c.args.table.now.closing c.args.key in
    exit (FormedAs c.args.table.now c.number.new.self (call_form k items)) c.from_residual.result c.in_err-number.field-0.0 c.from_residual.ensures.1
    (call_stops c.args.table.now c.args.table.now c.number.new.self (stays_so c.args.table.now) c.in_err-number.ensures.moves.widens whole k items c.in_err-number.field-0.0 (c.in_err-number.ensures.number whole))

pub returns-clause-form : goal.returns-clause-form
returns-clause-form c = λ around at whole.
    let table = c.args.table.now in
    let widens = c.in_ok-number.ensures.moves.widens in
    let es = value_args c.args.params.now c.args.args.now in
    called_formed table table c.number.new.self (stays_so table) widens whole (instance_of table.closing c.args.key) (exps_told c.args.scope es) (exps around es)
    (exps_say c.number.new.self c.args.scope around (scope_stays table c.number.new.self widens c.args.scope around at) es) c.in_ok-number.number (Ok (record { head = head.Call c.in_ok-number.number; parts = c.push_values.new.parts })) (c.in_ok-number.ensures.number whole)
    (refl, c.in_ok-push_values.ensures ∙ ap (λ l. map told l ++ exps_told c.args.scope es) c.new-parts.ensures)

pub returns-in_err-push_values-clause-form : goal.returns-in_err-push_values-clause-form
returns-in_err-push_values-clause-form c = λ around at whole.
    let form = call_form (instance_of c.args.table.now.closing c.args.key) (exps around (value_args c.args.params.now c.args.args.now)) in
    exit (FormedAs c.args.table.now c.number.new.self form) c.from_residual-in_err-push_values.result c.in_err-push_values.field-0.0 c.from_residual-in_err-push_values.ensures.1
    (no_memory c.args.table.now c.number.new.self form c.in_err-push_values.field-0.0 c.in_err-push_values.ensures)
