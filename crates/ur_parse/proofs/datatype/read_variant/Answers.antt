use Rattle.ur_parse_rules.proofs.Steps.{passed}
use Rattle.ur_parse_rules.proofs.Places.{mark_moves, name_moves, moves_on}
use Rattle.ur_parse.proofs.Variants.{variant_nameless, variant_plain, variant_refused, variant_of_read}
use Rattle.ur_parse.proofs.datatype.read_variant.Goals as goal

pub returns-in_err-name-clause-refused : goal.returns-in_err-name-clause-refused
returns-in_err-name-clause-refused c = passed _ _ c.from_residual.ensures.1 c.in_err-name.ensures.refused (λ r h. variant_nameless h)

pub returns-in_err-con-clause-refused : goal.returns-in_err-con-clause-refused
returns-in_err-con-clause-refused c = passed _ _ c.from_residual-in_err-con.ensures.1 c.in_err-con.ensures.refused (λ r h. variant_refused c.in_ok-name.ensures.found (c.sees.ensures.yes c.if-sees.true) h)

pub returns-in_ok-con-clause-moves : goal.returns-in_ok-con-clause-moves
returns-in_ok-con-clause-moves c = let f = c.variant_of.ensures.end in rw f (moves_on (name_moves c.in_ok-name.ensures.found) (moves_on (mark_moves (c.sees.ensures.yes c.if-sees.true)) c.in_ok-con.ensures.moves))

pub returns-in_ok-con-clause-found : goal.returns-in_ok-con-clause-found
returns-in_ok-con-clause-found c = let e = c.variant_of.ensures.tree in let f = c.variant_of.ensures.end in let s = c.span-covered.ensures in
    rw (e, f, s) (variant_of_read c.in_ok-name.ensures.found (c.sees.ensures.yes c.if-sees.true) (moves_on (name_moves c.in_ok-name.ensures.found) (moves_on (mark_moves (c.sees.ensures.yes c.if-sees.true)) c.in_ok-con.ensures.moves)) c.in_ok-con.ensures.found)

pub returns-else-sees-clause-moves : goal.returns-else-sees-clause-moves
returns-else-sees-clause-moves c = let f = c.plain.ensures.end in rw f (name_moves c.in_ok-name.ensures.found)

pub returns-else-sees-clause-found : goal.returns-else-sees-clause-found
returns-else-sees-clause-found c = let e = c.plain.ensures.tree in let f = c.plain.ensures.end in let s = c.span-covered-else-sees.ensures in
    rw (e, f, s) (variant_plain c.in_ok-name.ensures.found (name_moves c.in_ok-name.ensures.found) (c.sees.ensures.no c.if-sees.false))
