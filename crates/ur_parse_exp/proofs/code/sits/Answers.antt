use Rattle.std.proofs.Common.{arith}
use Rattle.ur_parse_exp.proofs.code.sits.Goals as goal

pub returns-then-same_place-clause-found : goal.returns-then-same_place-clause-found
returns-then-same_place-clause-found c = let k = c.same_place.ensures.0 c.if-same_place.true in record { behind = omega arith; raw = rw k at c.in_ok-end.ensures.found }

pub returns-then-same_place-clause-moves : goal.returns-then-same_place-clause-moves
returns-then-same_place-clause-moves c = let k = c.same_place.ensures.0 c.if-same_place.true in let w = rw k at c.in_ok-end.ensures.found in w.moves
