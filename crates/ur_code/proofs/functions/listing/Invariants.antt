-- The loop has written the functions so far.
use Rattle.std.proofs.Common.{◌≡◌, take, flat_map}
use Rattle.ur_code.specs.Texts.{function_text}
use Rattle.ur_code.proofs.functions.listing.Given as goal

abbrev pub invariant-loop-function : goal.invariant-loop-function
invariant-loop-function l = l.text ≡ flat_map (function_text l.names) (take l.function-index l.function-items)
