use Rattle.ur_parse_rules.proofs.Steps.{passed}
use Rattle.ur_parse_rules.proofs.Places.{mark_moves, name_moves, moves_on}
use Rattle.ur_parse_con.proofs.Binders.{stays_on}
use Rattle.ur_parse_con.proofs.Patterns.{true_form, false_form, none_form, some_refused, some_form, capital_refused, capital_form, none_begins}
use Rattle.ur_parse_con.proofs.pattern.word.Goals as goal

pub returns-then-sees_word-clause-moves : goal.returns-then-sees_word-clause-moves
returns-then-sees_word-clause-moves c = mark_moves (c.sees_word.ensures.yes c.if-sees_word.true)

pub returns-then-sees_word-clause-found : goal.returns-then-sees_word-clause-found
returns-then-sees_word-clause-found c = true_form (mark_moves (c.sees_word.ensures.yes c.if-sees_word.true)) (c.sees_word.ensures.yes c.if-sees_word.true)

pub returns-then-sees_word-2-clause-moves : goal.returns-then-sees_word-2-clause-moves
returns-then-sees_word-2-clause-moves c = mark_moves (c.sees_word-else-sees_word.ensures.yes c.if-sees_word-2.true)

pub returns-then-sees_word-2-clause-found : goal.returns-then-sees_word-2-clause-found
returns-then-sees_word-2-clause-found c = false_form (mark_moves (c.sees_word-else-sees_word.ensures.yes c.if-sees_word-2.true)) (c.sees_word-else-sees_word.ensures.yes c.if-sees_word-2.true)

pub returns-then-sees_word-3-clause-moves : goal.returns-then-sees_word-3-clause-moves
returns-then-sees_word-3-clause-moves c = mark_moves (c.sees_word-else-sees_word-2.ensures.yes c.if-sees_word-3.true)

pub returns-then-sees_word-3-clause-found : goal.returns-then-sees_word-3-clause-found
returns-then-sees_word-3-clause-found c = none_form (mark_moves (c.sees_word-else-sees_word-2.ensures.yes c.if-sees_word-3.true)) (c.sees_word-else-sees_word-2.ensures.yes c.if-sees_word-3.true)

pub returns-in_err-binder-clause-refused : goal.returns-in_err-binder-clause-refused
returns-in_err-binder-clause-refused c = λ o l. passed _ _ c.from_residual.ensures.1 c.in_err-binder.ensures.refused (λ r h n. some_refused (c.sees_word-else-sees_word-3.ensures.yes c.if-sees_word-4.true) (h n))

pub returns-in_ok-binder-clause-moves : goal.returns-in_ok-binder-clause-moves
returns-in_ok-binder-clause-moves c = moves_on (mark_moves (c.sees_word-else-sees_word-3.ensures.yes c.if-sees_word-4.true)) c.in_ok-binder.ensures.moves

pub returns-in_ok-binder-clause-found : goal.returns-in_ok-binder-clause-found
returns-in_ok-binder-clause-found c = some_form (c.sees_word-else-sees_word-3.ensures.yes c.if-sees_word-4.true) _ (moves_on (mark_moves (c.sees_word-else-sees_word-3.ensures.yes c.if-sees_word-4.true)) c.in_ok-binder.ensures.moves) c.in_ok-binder.ensures.found

pub returns-in_err-name-clause-refused : goal.returns-in_err-name-clause-refused
returns-in_err-name-clause-refused c = λ o l. passed _ _ c.from_residual-in_err-name.ensures.1 c.in_err-name.ensures.refused (λ r h n. none_begins o l (c.sees_word.ensures.no c.if-sees_word.false) (c.sees_word-else-sees_word.ensures.no c.if-sees_word-2.false)
    (c.sees_word-else-sees_word-2.ensures.no c.if-sees_word-3.false) (c.sees_word-else-sees_word-3.ensures.no c.if-sees_word-4.false) h)

pub returns-in_err-form-clause-refused : goal.returns-in_err-form-clause-refused
returns-in_err-form-clause-refused c = λ o l. passed _ _ c.from_residual-in_err-form.ensures.1 c.in_err-form.ensures.refused (λ r h n. capital_refused c.in_ok-name.ensures.found (h n))

pub returns-in_ok-form-clause-moves : goal.returns-in_ok-form-clause-moves
returns-in_ok-form-clause-moves c = stays_on (name_moves c.in_ok-name.ensures.found) c.in_ok-form.ensures.stays

pub returns-in_ok-form-clause-found : goal.returns-in_ok-form-clause-found
returns-in_ok-form-clause-found c = capital_form c.in_ok-name.ensures.found _ (stays_on (name_moves c.in_ok-name.ensures.found) c.in_ok-form.ensures.stays) c.in_ok-form.ensures.found
