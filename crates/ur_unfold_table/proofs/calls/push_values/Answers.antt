use Rattle.std.proofs.Common.{◌++◌, map, refl, ap, ◌∙◌}
use Rattle.ur_source.specs.Items.{value_args}
use Rattle.ur_unfold_pieces.specs.Told.{told, exps_told}
use Rattle.ur_unfold_table.proofs.Called.{values_from, values_more, values_end}
use Rattle.ur_unfold_table.proofs.calls.push_values.Goals as goal

pub loop-i-init : goal.loop-i-init
loop-i-init c = values_from c.args.scope c.as_slice-ps.result.now c.args.args.now (map told c.args.parts.now) c.args.parts.now refl

pub loop-i-preserved : goal.loop-i-preserved
loop-i-preserved c =
    values_more c.args.scope c.as_slice-ps.result.now c.args.args.now (map told c.args.parts.now) c.loop-i.i c.index-ps-i.result c.loop-i.parts c.push_value.new.parts c.loop-i-test.true c.index-ps-i.is c.loop-i.invariant c.in_ok-push_value.ensures

pub returns : goal.returns
returns c =
    values_end c.args.scope c.as_slice-ps.result.now c.args.args.now (map told c.args.parts.now) c.loop-i.i c.loop-i.parts c.loop-i-test.false c.loop-i.invariant
    ∙ ap (λ l. map told c.args.parts.now ++ exps_told c.args.scope (value_args l c.args.args.now)) c.as_slice-ps.ensures
