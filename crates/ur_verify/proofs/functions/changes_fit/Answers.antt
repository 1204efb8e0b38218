-- Each change fits the tables.
use Rattle.ur_sql.specs.Typing.{ChangeFits}
use Rattle.ur_verify.proofs.Loops.{all_step}
use Rattle.ur_verify.proofs.Pairs.{all_of}
use Rattle.ur_verify.proofs.Loops.{not_so}
use Rattle.ur_verify.proofs.Told.{among}
use Rattle.ur_verify.proofs.functions.changes_fit.Goals as goal

pub loop-change-preserved : goal.loop-change-preserved
loop-change-preserved c =
    all_step (ChangeFits c.args.code.now.schema) _ c.loop-change.change-index c.change-item.result c.loop-change-test.true c.change-item.is (c.in_ok-change_fits.ensures.0 c.if-not-branch.false) c.loop-change.invariant

pub returns-clause-fits : goal.returns-clause-fits
returns-clause-fits c =
    all_of (ChangeFits c.args.code.now.schema) c.as_slice-change-items.result.now c.args.code.now.changes c.loop-change.change-index c.as_slice-change-items.ensures c.loop-change-test.false c.loop-change.invariant

pub returns-then-not-branch-clause-told : goal.returns-then-not-branch-clause-told
returns-then-not-branch-clause-told c =
    (c.change-item.result, among c.as_slice-change-items.result.now c.args.code.now.changes c.loop-change.change-index c.change-item.result c.as_slice-change-items.ensures c.loop-change-test.true c.change-item.is, not_so _ c.in_ok-change_fits.ensures c.if-not-branch.true, c.in_ok-no_type.ensures)
