use Rattle.std.proofs.Common.{sym, ◌∙◌}
use Rattle.ur_unfold_static.specs.Words.{is_one_computed}
use Rattle.ur_unfold_static.proofs.Loops.{passed, found, nowhere}
use Rattle.ur_unfold_static.proofs.Statics.{computed-here, none-computed}
use Rattle.ur_unfold_static.proofs.computed.+computed.Goals as goal

pub some_names_static-returns-then-field_names_static : goal.some_names_static-returns-then-field_names_static
some_names_static-returns-then-field_names_static _ c = found (is_one_computed c.args.functions.now) c.args.fields.now c.as_slice-all.result.now c.loop-i.i _ _ c.as_slice-all.ensures c.loop-i.invariant
    (computed-here c.args.functions.now c.as_slice-all.result.now c.loop-i.i c.index-all-i.result c.loop-i-test.true c.index-all-i.is) (sym c.field_names_static.ensures ∙ c.if-field_names_static.true)

pub some_names_static-loop-i-preserved : goal.some_names_static-loop-i-preserved
some_names_static-loop-i-preserved _ c = passed (is_one_computed c.args.functions.now) c.as_slice-all.result.now c.loop-i.i _ _ c.loop-i.invariant
    (computed-here c.args.functions.now c.as_slice-all.result.now c.loop-i.i c.index-all-i.result c.loop-i-test.true c.index-all-i.is) (sym c.field_names_static.ensures ∙ c.if-field_names_static.false)

pub some_names_static-returns : goal.some_names_static-returns
some_names_static-returns _ c = nowhere (is_one_computed c.args.functions.now) c.args.fields.now c.as_slice-all.result.now c.loop-i.i (none-computed c.args.functions.now) c.as_slice-all.ensures c.loop-i.invariant c.loop-i-test.false c.loop-i.auto.i-end
