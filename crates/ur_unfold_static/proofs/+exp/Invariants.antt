-- What is not found yet is in what is left.
use Rattle.std.proofs.Common.{◌≡◌, drop}
use Rattle.ur_unfold_static.specs.Words.{exps_name, fields_name, branches_name, xml_names}
use Rattle.ur_unfold_static.proofs.+exp.Given as goal

abbrev pub invariant-mentions_exps::in_exps-loop-i : goal.invariant-mentions_exps::in_exps-loop-i
invariant-mentions_exps::in_exps-loop-i l = exps_name l.of l.depth l.all ≡ exps_name l.of l.depth (drop l.i l.all)

abbrev pub invariant-mentions_exps::in_fields-loop-i : goal.invariant-mentions_exps::in_fields-loop-i
invariant-mentions_exps::in_fields-loop-i l = fields_name l.of l.depth l.all ≡ fields_name l.of l.depth (drop l.i l.all)

abbrev pub invariant-mentions_exps::in_branches-loop-i : goal.invariant-mentions_exps::in_branches-loop-i
invariant-mentions_exps::in_branches-loop-i l = branches_name l.of l.depth l.all ≡ branches_name l.of l.depth (drop l.i l.all)

abbrev pub invariant-mentions_markups::in_markups-loop-i : goal.invariant-mentions_markups::in_markups-loop-i
invariant-mentions_markups::in_markups-loop-i l = xml_names l.of l.depth l.all ≡ xml_names l.of l.depth (drop l.i l.all)
