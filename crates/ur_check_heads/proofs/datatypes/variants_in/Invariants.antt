use Rattle.std.proofs.Common.{drop}
use Rattle.ur_check_heads.proofs.Grouping.{Listed}
use Rattle.ur_check_heads.proofs.datatypes.variants_in.Given as goal

abbrev pub invariant-loop-i : goal.invariant-loop-i
invariant-loop-i l = Listed l.datatype l.initial.project l.project l.variants (drop l.i l.variants)
