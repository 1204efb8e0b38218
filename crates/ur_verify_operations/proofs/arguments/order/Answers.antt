-- Two of one ordered type.
use Rattle.std.proofs.Common.{sym}
use Rattle.ur_verify_operations.specs.Misfits.{first_not_such, not_alike}
use Rattle.ur_verify_operations.proofs.Covering.{not_so}
use Rattle.ur_verify_operations.proofs.arguments.order.Goals as goal

pub returns-then-not-is_ordered-clause-told : goal.returns-then-not-is_ordered-clause-told
returns-then-not-is_ordered-clause-told c = first_not_such c.in-Some.a.now c.in-Some.b.now c.in-Some.ensures (not_so _ c.is_ordered.ensures c.if-not-is_ordered.true) c.in_ok-unlike.ensures

pub returns-then-not-same_type-clause-told : goal.returns-then-not-same_type-clause-told
returns-then-not-same_type-clause-told c = not_alike c.in-Some.a.now c.in-Some.b.now c.in-Some.ensures (λ e. not_so _ c.same_type.ensures c.if-not-same_type.true (sym e)) c.in_ok-mismatch.ensures
