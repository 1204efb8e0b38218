use Rattle.std.proofs.Common.{inr}
use Rattle.ur_parse_rules.proofs.Steps.{passed}
use Rattle.ur_parse_rules.proofs.Places.{mark_moves, moves_on}
use Rattle.ur_parse.proofs.Constraints.{keys_none, no_word_key, primary_refused, primary_read, head_refused, unique_refused, unique_read}
use Rattle.ur_parse.proofs.keys.read_keys.Goals as goal

pub returns-in_err-begin-clause-refused : goal.returns-in_err-begin-clause-refused
returns-in_err-begin-clause-refused c = passed _ _ c.from_residual.ensures.1 c.in_err-begin.ensures.refused (λ r h n. no_word_key (c.sees_word.ensures.yes c.if-sees_word.true) h)

pub returns-in_err-columns-clause-refused : goal.returns-in_err-columns-clause-refused
returns-in_err-columns-clause-refused c = passed _ _ c.from_residual-in_err-columns.ensures.1 c.in_err-columns.ensures.refused (λ r h n. primary_refused (c.sees_word.ensures.yes c.if-sees_word.true) c.in_ok-begin.ensures.found (h n))

pub returns-in_ok-columns-clause-stays : goal.returns-in_ok-columns-clause-stays
returns-in_ok-columns-clause-stays c = let e = c.primary.ensures.end in rw e (inr (moves_on (mark_moves (c.sees_word.ensures.yes c.if-sees_word.true)) (moves_on (mark_moves c.in_ok-begin.ensures.found) c.in_ok-columns.ensures.moves)))

pub returns-in_ok-columns-clause-found : goal.returns-in_ok-columns-clause-found
returns-in_ok-columns-clause-found c = λ n. let e = c.primary.ensures in let e0 = e.primary in let e1 = e.constraints in let e2 = e.end in
    rw (e0, e1, e2) (primary_read (c.sees_word.ensures.yes c.if-sees_word.true) c.in_ok-begin.ensures.found _ (c.in_ok-columns.ensures.found n))

pub returns-in_err-name-clause-refused : goal.returns-in_err-name-clause-refused
returns-in_err-name-clause-refused c = passed _ _ c.from_residual-in_err-name.ensures.1 c.in_err-name.ensures.refused (λ r h n. head_refused (c.sees_word-else-sees_word.ensures.yes c.if-sees_word-2.true) (h n))

pub returns-in_err-columns-2-clause-refused : goal.returns-in_err-columns-2-clause-refused
returns-in_err-columns-2-clause-refused c = passed _ _ c.from_residual-in_err-columns-2.ensures.1 c.in_err-columns-2.ensures.refused
    (λ r h n. unique_refused (c.sees_word-else-sees_word.ensures.yes c.if-sees_word-2.true) c.in_ok-name.begin (c.in_ok-name.ensures.found n) (h n))

pub returns-in_ok-made-clause-stays : goal.returns-in_ok-made-clause-stays
returns-in_ok-made-clause-stays c = let e = c.in_ok-made.ensures.end in rw e (inr (moves_on c.in_ok-name.ensures.moves c.in_ok-columns-2.ensures.moves))

pub returns-in_ok-made-clause-found : goal.returns-in_ok-made-clause-found
returns-in_ok-made-clause-found c = λ n. let e = c.in_ok-made.ensures in let e0 = e.primary in let e1 = e.constraints in let e2 = e.end in let s = c.span-head.ensures in
    rw (e0, e1, e2, s) (unique_read (c.sees_word-else-sees_word.ensures.yes c.if-sees_word-2.true) c.in_ok-name.begin (c.in_ok-name.ensures.found n) _ (c.in_ok-columns-2.ensures.found n))

pub returns-else-sees_word-2-clause-found : goal.returns-else-sees_word-2-clause-found
returns-else-sees_word-2-clause-found c = λ n. let e = c.new.ensures in rw e (keys_none (c.sees_word.ensures.no c.if-sees_word.false) (c.sees_word-else-sees_word.ensures.no c.if-sees_word-2.false))
