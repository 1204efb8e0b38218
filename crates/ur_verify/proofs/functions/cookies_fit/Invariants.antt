-- The cookies so far hold no option.
use Rattle.std.proofs.Common.{take, All}
use Rattle.ur_code.specs.Fits.{IsBasicCookie}
use Rattle.ur_verify.proofs.functions.cookies_fit.Given as goal

abbrev pub invariant-loop-cookie : goal.invariant-loop-cookie
invariant-loop-cookie l = All IsBasicCookie (take l.cookie-index l.cookie-items)
