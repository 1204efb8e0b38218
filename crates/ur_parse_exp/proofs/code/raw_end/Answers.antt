use Rattle.ur_parse_exp.proofs.code.raw_end.Goals as goal

pub returns-in-Ok-clause-found : goal.returns-in-Ok-clause-found
returns-in-Ok-clause-found c = record { moves = c.in-Ok.ensures.moves; read = c.in-Ok.ensures.found }
