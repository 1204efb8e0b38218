-- No field so far is an aggregate.
use Rattle.std.proofs.Common.{◌≡◌, take, false}
use Rattle.std.specs.List.{list_any}
use Rattle.ur_sql.specs.Answer.{is_aggregate}
use Rattle.ur_verify.proofs.queries.has_aggregate.Given as goal

abbrev pub invariant-loop-field : goal.invariant-loop-field
invariant-loop-field l = list_any is_aggregate (take l.field-index l.fields) ≡ false
