use Rattle.std.proofs.Common.{◌≡◌, drop}
use Rattle.ur_check_heads.specs.Words.{exps_aim, fields_aim, branches_aim, parts_aim}
use Rattle.ur_check_heads.proofs.occurrences.+occurring.Given as goal

abbrev pub invariant-in_exps-loop-i : goal.invariant-in_exps-loop-i
invariant-in_exps-loop-i l = exps_aim (drop l.i l.list) l.aims ≡ exps_aim l.list l.initial.aims

abbrev pub invariant-in_fields-loop-i : goal.invariant-in_fields-loop-i
invariant-in_fields-loop-i l = fields_aim (drop l.i l.list) l.aims ≡ fields_aim l.list l.initial.aims

abbrev pub invariant-in_branches-loop-i : goal.invariant-in_branches-loop-i
invariant-in_branches-loop-i l = branches_aim (drop l.i l.list) l.aims ≡ branches_aim l.list l.initial.aims

abbrev pub invariant-in_parts-loop-i : goal.invariant-in_parts-loop-i
invariant-in_parts-loop-i l = parts_aim (drop l.i l.list) l.aims ≡ parts_aim l.list l.initial.aims
