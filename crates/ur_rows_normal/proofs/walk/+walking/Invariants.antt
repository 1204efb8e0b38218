use Rattle.ur_rows.specs.Normal.{nf_field}
use Rattle.ur_rows_normal.specs.Walk.{record_part}
use Rattle.ur_rows_normal.proofs.Walked.{Collects}
use Rattle.ur_rows_normal.proofs.walk.+walking.Given as goal

abbrev pub invariant-walk_row-loop-i : goal.invariant-walk_row-loop-i
invariant-walk_row-loop-i l = Collects nf_field l.scope l.row l.fields l.i

abbrev pub invariant-walk_record-loop-i : goal.invariant-walk_record-loop-i
invariant-walk_record-loop-i l = Collects record_part l.scope l.row l.fields l.i
