use Rattle.std.proofs.Common.{◌≡◌, drop}
use Rattle.std.specs.List.{list_any}
use Rattle.ur_sql.specs.Answer.{is_aggregate}
use Rattle.ur_sqltype.proofs.grouped.has_aggregate.Given as goal

abbrev pub invariant-loop-field : goal.invariant-loop-field
invariant-loop-field l = list_any (is_aggregate) (drop l.field-index l.fields) ≡ list_any (is_aggregate) (l.fields)
