use Rattle.std.proofs.Common.{sym, ap, ◌∙◌}
use Rattle.ur_source.specs.Items.{field_numbers}
use Rattle.ur_unfold_table.proofs.Forming.{not_given}
use Rattle.ur_unfold_table.proofs.Recorded.{names_from, names_more, names_stop, names_end}
use Rattle.ur_unfold_table.proofs.records.names_in.Goals as goal

pub loop-i-init : goal.loop-i-init
loop-i-init c = λ around at. names_from c.args.table.now.typed.now.names around.cons c.as_slice-all.result.now c.new-names.result c.new-names.ensures

pub loop-i-preserved : goal.loop-i-preserved
loop-i-preserved c = λ around at.
    names_more c.args.table.now.typed.now.names around.cons c.as_slice-all.result.now c.loop-i.i c.index-all-i.result c.loop-i.names c.push.new.self c.in-Some.name c.loop-i-test.true c.index-all-i.is
    (sym c.in-Some.is ∙ c.in_ok-field_name.ensures around at) (c.loop-i.invariant around at) c.in_ok-push-in-Some.ensures.ok

pub returns-in-None : goal.returns-in-None
returns-in-None c = λ around at.
    names_stop c.args.table.now.typed.now.names around.cons c.as_slice-all.result.now c.loop-i.i c.index-all-i.result c.loop-i.names c.loop-i-test.true c.index-all-i.is
    (sym c.in-None.is ∙ c.in_ok-field_name.ensures around at) (c.loop-i.invariant around at)
    ∙ ap (field_numbers c.args.table.now.typed.now.names around.cons) c.as_slice-all.ensures

pub returns : goal.returns
returns c = λ around at.
    names_end c.args.table.now.typed.now.names around.cons c.as_slice-all.result.now c.loop-i.i c.loop-i.names c.loop-i-test.false (c.loop-i.invariant around at)
    ∙ ap (field_numbers c.args.table.now.typed.now.names around.cons) c.as_slice-all.ensures

pub returns-in_err-field_name : goal.returns-in_err-field_name
returns-in_err-field_name c = λ around at. not_given _ c.from_residual.result c.in_err-field_name.field-0.0 c.from_residual.ensures.1 (c.in_err-field_name.ensures around at)
