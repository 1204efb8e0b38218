-- Each query fits the tables.
use Rattle.ur_sql.specs.Typing.{QueryFits}
use Rattle.ur_verify.proofs.Loops.{all_step}
use Rattle.ur_verify.proofs.Pairs.{all_of}
use Rattle.ur_verify.proofs.Loops.{not_so}
use Rattle.ur_verify.proofs.Told.{among}
use Rattle.ur_verify.proofs.functions.queries_fit.Goals as goal

pub loop-query-preserved : goal.loop-query-preserved
loop-query-preserved c =
    all_step (QueryFits c.args.code.now.schema) _ c.loop-query.query-index c.query-item.result c.loop-query-test.true c.query-item.is (c.in_ok-query_fits.ensures.0 c.if-not-branch.false) c.loop-query.invariant

pub returns-clause-fits : goal.returns-clause-fits
returns-clause-fits c =
    all_of (QueryFits c.args.code.now.schema) c.as_slice-query-items.result.now c.args.code.now.queries c.loop-query.query-index c.as_slice-query-items.ensures c.loop-query-test.false c.loop-query.invariant

pub returns-then-not-branch-clause-told : goal.returns-then-not-branch-clause-told
returns-then-not-branch-clause-told c =
    (c.query-item.result, among c.as_slice-query-items.result.now c.args.code.now.queries c.loop-query.query-index c.query-item.result c.as_slice-query-items.ensures c.loop-query-test.true c.query-item.is, not_so _ c.in_ok-query_fits.ensures c.if-not-branch.true, c.in_ok-no_type.ensures)
