use Rattle.ur_http.proofs.Pairs.{no_equals, no_text, is_pair_with}
use Rattle.ur_http.proofs.cookies.middle_of.Goals as goal

pub returns-in-None-clause-pair : goal.returns-in-None-clause-pair
returns-in-None-clause-pair c = no_equals c.args.piece.now c.in-None.ensures.place

pub returns-in-Ok-clause-pair : goal.returns-in-Ok-clause-pair
returns-in-Ok-clause-pair c = is_pair_with c.args.piece.now _ c.in-Some.ensures.place.0 c.in-Some.ensures.place.1 c.in-Ok.ensures.cases.1

pub returns-in-Err-clause-pair : goal.returns-in-Err-clause-pair
returns-in-Err-clause-pair c = no_text c.args.piece.now c.in-Err.ensures.cases.0
