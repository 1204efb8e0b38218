use Rattle.std.proofs.Common.{drop}
use Rattle.ur_rows_normal.specs.Preparing.{Reads}
use Rattle.ur_typed_rules.specs.Names.{Names}
use Rattle.ur_check_heads.proofs.Written.{ParamsCome}
use Rattle.ur_check_heads.proofs.heads.params.Given as goal

abbrev pub invariant-loop-i : goal.invariant-loop-i
invariant-loop-i l = (known : Names) → Reads l.place known.cons → ParamsCome 65536 known l.written l.locals (drop l.i l.written)
