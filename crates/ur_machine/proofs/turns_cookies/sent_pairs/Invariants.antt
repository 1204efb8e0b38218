use Rattle.std.proofs.Common.{◌≡◌, map, take}
use Rattle.ur_machine.specs.TurnsCookies.{sent_pair}
use Rattle.ur_machine.proofs.turns_cookies.sent_pairs.Given as goal

abbrev pub invariant-loop-set : goal.invariant-loop-set
invariant-loop-set l = l.pairs ≡ map (sent_pair l.cookies) (take l.set-index l.sent)
