-- The keys so far read only these columns.
use Rattle.std.proofs.Common.{take, All}
use Rattle.ur_sql.specs.Typing.{ReadsOnly}
use Rattle.ur_verify.proofs.queries.keys_read_only.Given as goal

abbrev pub invariant-loop-key : goal.invariant-loop-key
invariant-loop-key l = All (λ k. ReadsOnly l.group k.by) (take l.key-index l.keys)
