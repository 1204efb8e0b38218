use Rattle.std.proofs.Common.{sym, ◌∙◌}
use Rattle.std.proofs.lemmas.Bool.{false≢true}
use Rattle.ur_unfold_static.specs.Lists.{written}
use Rattle.ur_unfold_static.proofs.Finding.{found, passed, nowhere}
use Rattle.ur_unfold_static.proofs.lambdas.place_of.Goals as goal

pub returns-then-same_lambda : goal.returns-then-same_lambda
returns-then-same_lambda c = found written c.args.lambdas.now c.as_slice-known.result.now c.loop-i.i c.index-known-i.result (c.args.params.now, c.args.body.now)
    c.as_slice-known.ensures c.loop-i-test.true c.index-known-i.is (c.same_lambda.ensures.0 c.if-same_lambda.true)

pub loop-i-preserved : goal.loop-i-preserved
loop-i-preserved c = passed written c.as_slice-known.result.now c.loop-i.i c.index-known-i.result (c.args.params.now, c.args.body.now) c.loop-i-test.true c.index-known-i.is
    (λ same. false≢true (sym c.if-same_lambda.false ∙ c.same_lambda.ensures.1 same)) c.loop-i.invariant

pub returns : goal.returns
returns c = nowhere written c.args.lambdas.now c.as_slice-known.result.now c.loop-i.i (c.args.params.now, c.args.body.now)
    c.as_slice-known.ensures c.loop-i-test.false c.loop-i.invariant
