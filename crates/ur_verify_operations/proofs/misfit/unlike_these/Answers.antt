-- The first two types that differ, or that there are none as far as both go.
use Rattle.std.proofs.Common.{sym, subst, arith}
use Rattle.std.proofs.lemmas.Result.{IfOk-weaker}
use Rattle.ur_verify_operations.specs.Saying.{FirstUnlike, counts}
use Rattle.ur_verify_operations.proofs.Unlikes.{differ_at}
use Rattle.ur_verify_operations.proofs.misfit.unlike_these.Goals as goal

pub returns-then-not-same_type : goal.returns-then-not-same_type
returns-then-not-same_type c =
    IfOk-weaker c.mismatch.result _ _
    (λ m said. differ_at c.args.code.now.names c.args.found.now c.args.wanted.now c.loop-place.place c.min-place-end.result c.index-found-place.result c.index-wanted-place.result c.same_type.result (m.left, m.right)
    c.loop-place-test.true c.min-place-end.ensures c.loop-place.invariant c.index-found-place.is c.index-wanted-place.is c.same_type.ensures c.if-not-same_type.true said)
    c.mismatch.ensures

pub returns : goal.returns
returns c =
    let least = c.min-place-end.ensures in let past = c.loop-place-test.false in
    IfOk-weaker c.no_type.result _ _
    (λ m said. subst (FirstUnlike c.args.code.now.names c.args.found.now c.args.wanted.now) (sym said) (counts c.loop-place.place (omega (arith, least, past)) c.loop-place.invariant))
    c.no_type.ensures
