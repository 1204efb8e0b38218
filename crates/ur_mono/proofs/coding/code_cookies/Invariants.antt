-- The cookies so far are made.
use Rattle.std.proofs.Common.{◌≡◌, take, map}
use Rattle.ur_mono.specs.Mono.{cookie_of}
use Rattle.ur_mono.proofs.coding.code_cookies.Given as goal

abbrev pub invariant-loop-cookie : goal.invariant-loop-cookie
invariant-loop-cookie l = l.made ≡ map cookie_of (take l.cookie-index l.cookie-items)
