use Rattle.std.proofs.Common.{sym, ap, ap₂, ◌∙◌}
use Rattle.ur_check_heads.specs.Words.{exps_aim, fields_aim, branches_aim, parts_aim, held_aims, part_aims}
use Rattle.ur_check_heads.proofs.Words.{start, step, last, part-Submit, exps-here, exps-none, fields-here, fields-none, branches-here, branches-none, parts-here, parts-none}
use Rattle.ur_check_heads.proofs.occurrences.+occurring.Goals as goal

pub in_exps-loop-i-init : goal.in_exps-loop-i-init
in_exps-loop-i-init _ c = start exps_aim c.args.list.now c.args.aims.now

pub in_exps-loop-i-preserved : goal.in_exps-loop-i-preserved
in_exps-loop-i-preserved _ c = step exps_aim c.args.list.now c.loop-i.i c.args.aims.now c.loop-i.aims _ _
    (exps-here c.args.list.now c.loop-i.i c.index-list-i.result c.loop-i.aims c.loop-i-test.true c.index-list-i.is) c.in_exp.ensures c.loop-i.invariant

pub in_exps-returns : goal.in_exps-returns
in_exps-returns _ c = last exps_aim c.args.list.now c.loop-i.i c.args.aims.now c.loop-i.aims (exps-none c.loop-i.aims) c.loop-i-test.false c.loop-i.invariant

pub in_fields-loop-i-init : goal.in_fields-loop-i-init
in_fields-loop-i-init _ c = start fields_aim c.args.list.now c.args.aims.now

pub in_fields-loop-i-preserved : goal.in_fields-loop-i-preserved
in_fields-loop-i-preserved _ c = step fields_aim c.args.list.now c.loop-i.i c.args.aims.now c.loop-i.aims _ _
    (fields-here c.args.list.now c.loop-i.i c.index-list-i.result c.loop-i.aims c.loop-i-test.true c.index-list-i.is) c.in_field.ensures c.loop-i.invariant

pub in_fields-returns : goal.in_fields-returns
in_fields-returns _ c = last fields_aim c.args.list.now c.loop-i.i c.args.aims.now c.loop-i.aims (fields-none c.loop-i.aims) c.loop-i-test.false c.loop-i.invariant

pub in_branches-loop-i-init : goal.in_branches-loop-i-init
in_branches-loop-i-init _ c = start branches_aim c.args.list.now c.args.aims.now

pub in_branches-loop-i-preserved : goal.in_branches-loop-i-preserved
in_branches-loop-i-preserved _ c = step branches_aim c.args.list.now c.loop-i.i c.args.aims.now c.loop-i.aims _ _
    (branches-here c.args.list.now c.loop-i.i c.index-list-i.result c.loop-i.aims c.loop-i-test.true c.index-list-i.is) c.in_branch.ensures c.loop-i.invariant

pub in_branches-returns : goal.in_branches-returns
in_branches-returns _ c = last branches_aim c.args.list.now c.loop-i.i c.args.aims.now c.loop-i.aims (branches-none c.loop-i.aims) c.loop-i-test.false c.loop-i.invariant

pub in_parts-loop-i-init : goal.in_parts-loop-i-init
in_parts-loop-i-init _ c = start parts_aim c.args.list.now c.args.aims.now

pub in_parts-loop-i-preserved : goal.in_parts-loop-i-preserved
in_parts-loop-i-preserved _ c = step parts_aim c.args.list.now c.loop-i.i c.args.aims.now c.loop-i.aims _ _
    (parts-here c.args.list.now c.loop-i.i c.index-list-i.result c.loop-i.aims c.loop-i-test.true c.index-list-i.is) c.in_part.ensures c.loop-i.invariant

pub in_parts-returns : goal.in_parts-returns
in_parts-returns _ c = last parts_aim c.args.list.now c.loop-i.i c.args.aims.now c.loop-i.aims (parts-none c.loop-i.aims) c.loop-i-test.false c.loop-i.invariant

pub in_part-returns-in-Submit : goal.in_part-returns-in-Submit
in_part-returns-in-Submit _ c =
    let s = c.in-Submit in
    c.in_held-in-Submit.ensures ∙ ap (held_aims s.held) (c.in_exps-in-Submit.ensures ∙ ap₂ exps_aim c.as_slice-in-Submit.ensures c.mark_post.ensures)
    ∙ sym (ap (λ m. part_aims m c.args.aims.now) s.is ∙ part-Submit s.number s.args s.held c.args.aims.now)
