use Rattle.std.proofs.Common.{sym, ◌∙◌}
use Rattle.ur_unfold_static.specs.Words.{branches_name, exps_name, fields_name, xml_names}
use Rattle.ur_unfold_static.proofs.Loops.{passed, found, nowhere}
use Rattle.ur_unfold_static.proofs.Words.{branches-here, exps-here, fields-here, markups-here, no-branches, no-exps, no-fields, no-markups}
use Rattle.ur_unfold_static.proofs.+exp.Goals as goal

pub mentions_exps::in_exps-returns-then-branch : goal.mentions_exps::in_exps-returns-then-branch
mentions_exps::in_exps-returns-then-branch _ c = found (exps_name c.args.of c.args.depth) c.args.es.now c.as_slice-all.result.now c.loop-i.i _ _ c.as_slice-all.ensures c.loop-i.invariant
    (exps-here c.args.of c.args.depth c.as_slice-all.result.now c.loop-i.i c.index-all-i.result c.loop-i-test.true c.index-all-i.is) (sym c.in_ok-in_exp.ensures ∙ c.if-branch.true)

pub mentions_exps::in_exps-loop-i-preserved : goal.mentions_exps::in_exps-loop-i-preserved
mentions_exps::in_exps-loop-i-preserved _ c = passed (exps_name c.args.of c.args.depth) c.as_slice-all.result.now c.loop-i.i _ _ c.loop-i.invariant
    (exps-here c.args.of c.args.depth c.as_slice-all.result.now c.loop-i.i c.index-all-i.result c.loop-i-test.true c.index-all-i.is) (sym c.in_ok-in_exp.ensures ∙ c.if-branch.false)

pub mentions_exps::in_exps-returns : goal.mentions_exps::in_exps-returns
mentions_exps::in_exps-returns _ c = nowhere (exps_name c.args.of c.args.depth) c.args.es.now c.as_slice-all.result.now c.loop-i.i (no-exps c.args.of c.args.depth) c.as_slice-all.ensures c.loop-i.invariant c.loop-i-test.false c.loop-i.auto.i-end

pub mentions_exps::in_fields-returns-then-branch : goal.mentions_exps::in_fields-returns-then-branch
mentions_exps::in_fields-returns-then-branch _ c = found (fields_name c.args.of c.args.depth) c.args.fields.now c.as_slice-all.result.now c.loop-i.i _ _ c.as_slice-all.ensures c.loop-i.invariant
    (fields-here c.args.of c.args.depth c.as_slice-all.result.now c.loop-i.i c.index-all-i.result c.loop-i-test.true c.index-all-i.is) (sym c.in_ok-in_field.ensures ∙ c.if-branch.true)

pub mentions_exps::in_fields-loop-i-preserved : goal.mentions_exps::in_fields-loop-i-preserved
mentions_exps::in_fields-loop-i-preserved _ c = passed (fields_name c.args.of c.args.depth) c.as_slice-all.result.now c.loop-i.i _ _ c.loop-i.invariant
    (fields-here c.args.of c.args.depth c.as_slice-all.result.now c.loop-i.i c.index-all-i.result c.loop-i-test.true c.index-all-i.is) (sym c.in_ok-in_field.ensures ∙ c.if-branch.false)

pub mentions_exps::in_fields-returns : goal.mentions_exps::in_fields-returns
mentions_exps::in_fields-returns _ c = nowhere (fields_name c.args.of c.args.depth) c.args.fields.now c.as_slice-all.result.now c.loop-i.i (no-fields c.args.of c.args.depth) c.as_slice-all.ensures c.loop-i.invariant c.loop-i-test.false c.loop-i.auto.i-end

pub mentions_exps::in_branches-returns-then-branch : goal.mentions_exps::in_branches-returns-then-branch
mentions_exps::in_branches-returns-then-branch _ c = found (branches_name c.args.of c.args.depth) c.args.branches.now c.as_slice-all.result.now c.loop-i.i _ _ c.as_slice-all.ensures c.loop-i.invariant
    (branches-here c.args.of c.args.depth c.as_slice-all.result.now c.loop-i.i c.index-all-i.result c.loop-i-test.true c.index-all-i.is) (sym c.in_ok-in_branch.ensures ∙ c.if-branch.true)

pub mentions_exps::in_branches-loop-i-preserved : goal.mentions_exps::in_branches-loop-i-preserved
mentions_exps::in_branches-loop-i-preserved _ c = passed (branches_name c.args.of c.args.depth) c.as_slice-all.result.now c.loop-i.i _ _ c.loop-i.invariant
    (branches-here c.args.of c.args.depth c.as_slice-all.result.now c.loop-i.i c.index-all-i.result c.loop-i-test.true c.index-all-i.is) (sym c.in_ok-in_branch.ensures ∙ c.if-branch.false)

pub mentions_exps::in_branches-returns : goal.mentions_exps::in_branches-returns
mentions_exps::in_branches-returns _ c = nowhere (branches_name c.args.of c.args.depth) c.args.branches.now c.as_slice-all.result.now c.loop-i.i (no-branches c.args.of c.args.depth) c.as_slice-all.ensures c.loop-i.invariant c.loop-i-test.false c.loop-i.auto.i-end

pub mentions_markups::in_markups-returns-then-branch : goal.mentions_markups::in_markups-returns-then-branch
mentions_markups::in_markups-returns-then-branch _ c = found (xml_names c.args.of c.args.depth) c.args.parts.now c.as_slice-all.result.now c.loop-i.i _ _ c.as_slice-all.ensures c.loop-i.invariant
    (markups-here c.args.of c.args.depth c.as_slice-all.result.now c.loop-i.i c.index-all-i.result c.loop-i-test.true c.index-all-i.is) (sym c.in_ok-in_markup.ensures ∙ c.if-branch.true)

pub mentions_markups::in_markups-loop-i-preserved : goal.mentions_markups::in_markups-loop-i-preserved
mentions_markups::in_markups-loop-i-preserved _ c = passed (xml_names c.args.of c.args.depth) c.as_slice-all.result.now c.loop-i.i _ _ c.loop-i.invariant
    (markups-here c.args.of c.args.depth c.as_slice-all.result.now c.loop-i.i c.index-all-i.result c.loop-i-test.true c.index-all-i.is) (sym c.in_ok-in_markup.ensures ∙ c.if-branch.false)

pub mentions_markups::in_markups-returns : goal.mentions_markups::in_markups-returns
mentions_markups::in_markups-returns _ c = nowhere (xml_names c.args.of c.args.depth) c.args.parts.now c.as_slice-all.result.now c.loop-i.i (no-markups c.args.of c.args.depth) c.as_slice-all.ensures c.loop-i.invariant c.loop-i-test.false c.loop-i.auto.i-end
