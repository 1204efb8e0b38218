-- No cookie holds an option.
use Rattle.ur_code.specs.Fits.{IsBasicCookie}
use Rattle.ur_verify.proofs.Loops.{all_step, not_so}
use Rattle.ur_verify.proofs.Pairs.{all_given, all_of}
use Rattle.ur_verify.proofs.Told.{among}
use Rattle.ur_verify.proofs.functions.cookies_fit.Goals as goal

pub loop-cookie-preserved : goal.loop-cookie-preserved
loop-cookie-preserved c =
    all_step IsBasicCookie _ c.loop-cookie.cookie-index c.cookie-item.result c.loop-cookie-test.true c.cookie-item.is
    (c.is_basic.ensures.0 c.if-not-is_basic.false) c.loop-cookie.invariant

pub returns-then-not-is_basic-clause-fits : goal.returns-then-not-is_basic-clause-fits
returns-then-not-is_basic-clause-fits c = λ k.
    not_so _ c.is_basic.ensures c.if-not-is_basic.true
    (all_given IsBasicCookie c.as_slice-cookie-items.result.now c.args.code.now.cookies c.loop-cookie.cookie-index c.cookie-item.result
    c.as_slice-cookie-items.ensures c.loop-cookie-test.true
    c.cookie-item.is k).1

pub returns-clause-fits : goal.returns-clause-fits
returns-clause-fits c =
    all_of IsBasicCookie c.as_slice-cookie-items.result.now c.args.code.now.cookies c.loop-cookie.cookie-index c.as_slice-cookie-items.ensures
    c.loop-cookie-test.false c.loop-cookie.invariant

pub returns-then-not-is_basic-clause-told : goal.returns-then-not-is_basic-clause-told
returns-then-not-is_basic-clause-told c = (
  c.cookie-item.result,
  among c.as_slice-cookie-items.result.now c.args.code.now.cookies c.loop-cookie.cookie-index c.cookie-item.result
      c.as_slice-cookie-items.ensures c.loop-cookie-test.true c.cookie-item.is,
  not_so _ c.is_basic.ensures c.if-not-is_basic.true,
  c.in_ok-no_type.ensures,
)
