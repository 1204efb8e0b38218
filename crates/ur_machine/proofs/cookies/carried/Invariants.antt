use Rattle.std.proofs.Common.{◌≡◌, take, map}
use Rattle.ur_machine.specs.Cookies.{carried_value}
use Rattle.ur_machine.proofs.cookies.carried.Given as goal

abbrev pub invariant-loop-cookie : goal.invariant-loop-cookie
invariant-loop-cookie l = l.carried ≡ map (carried_value l.pairs) (take l.cookie-index l.cookies)
