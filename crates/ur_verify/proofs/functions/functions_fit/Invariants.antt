-- The functions so far fit.
use Rattle.std.proofs.Common.{take, All}
use Rattle.ur_terms.specs.Types.{FitsFunction}
use Rattle.ur_code.specs.Fits.{signature}
use Rattle.ur_verify.proofs.functions.functions_fit.Given as goal

abbrev pub invariant-loop-function : goal.invariant-loop-function
invariant-loop-function l = All (FitsFunction (signature l.code)) (take l.function-index l.function-items)
