use Rattle.ur_parse_rules.proofs.Steps.{passed}
use Rattle.ur_parse_embed.proofs.Selecting.{count_open, count_star, count_close, count_read, sum_refused, sum_read, min_refused, min_read, max_refused, max_read, no_aggregate}
use Rattle.ur_parse_embed.proofs.selection.aggregate.Goals as goal

pub returns-in_err-star-clause-refused : goal.returns-in_err-star-clause-refused
returns-in_err-star-clause-refused c = passed _ _ c.from_residual.ensures.1 c.in_err-star.ensures.refused (λ r h. count_open (c.sees_word.ensures.yes c.if-sees_word.true) h)

pub returns-in_err-close-clause-refused : goal.returns-in_err-close-clause-refused
returns-in_err-close-clause-refused c = passed _ _ c.from_residual-in_err-close.ensures.1 c.in_err-close.ensures.refused (λ r h. count_star (c.sees_word.ensures.yes c.if-sees_word.true) c.in_ok-star.ensures.found h)

pub returns-in_err-end-clause-refused : goal.returns-in_err-end-clause-refused
returns-in_err-end-clause-refused c = passed _ _ c.from_residual-in_err-end.ensures.1 c.in_err-end.ensures.refused (λ r h. count_close (c.sees_word.ensures.yes c.if-sees_word.true) c.in_ok-star.ensures.found c.in_ok-close.ensures.found h)

pub returns-in_ok-end-clause-found : goal.returns-in_ok-end-clause-found
returns-in_ok-end-clause-found c = count_read (c.sees_word.ensures.yes c.if-sees_word.true) c.in_ok-star.ensures.found c.in_ok-close.ensures.found _ c.in_ok-end.ensures.found

pub returns-in_err-tree-clause-refused : goal.returns-in_err-tree-clause-refused
returns-in_err-tree-clause-refused c = passed _ _ c.from_residual-in_err-tree.ensures.1 c.in_err-tree.ensures.refused (λ r h. sum_refused (c.sees_word-else-sees_word.ensures.yes c.if-sees_word-2.true) h)

pub returns-in_ok-tree-clause-found : goal.returns-in_ok-tree-clause-found
returns-in_ok-tree-clause-found c = sum_read (c.sees_word-else-sees_word.ensures.yes c.if-sees_word-2.true) c.in_ok-tree.end c.in_ok-tree.ensures.found

pub returns-in_err-tree-2-clause-refused : goal.returns-in_err-tree-2-clause-refused
returns-in_err-tree-2-clause-refused c = passed _ _ c.from_residual-in_err-tree-2.ensures.1 c.in_err-tree-2.ensures.refused (λ r h. min_refused (c.sees_word-else-sees_word-2.ensures.yes c.if-sees_word-3.true) h)

pub returns-in_ok-tree-2-clause-found : goal.returns-in_ok-tree-2-clause-found
returns-in_ok-tree-2-clause-found c = min_read (c.sees_word-else-sees_word-2.ensures.yes c.if-sees_word-3.true) c.in_ok-tree-2.end c.in_ok-tree-2.ensures.found

pub returns-in_err-begin-clause-refused : goal.returns-in_err-begin-clause-refused
returns-in_err-begin-clause-refused c = passed _ _ c.from_residual-in_err-begin.ensures.1 c.in_err-begin.ensures.refused (λ r h. no_aggregate (c.sees_word.ensures.no c.if-sees_word.false) (c.sees_word-else-sees_word.ensures.no c.if-sees_word-2.false) (c.sees_word-else-sees_word-2.ensures.no c.if-sees_word-3.false) h)

pub returns-in_err-tree-3-clause-refused : goal.returns-in_err-tree-3-clause-refused
returns-in_err-tree-3-clause-refused c = passed _ _ c.from_residual-in_err-tree-3.ensures.1 c.in_err-tree-3.ensures.refused (λ r h. max_refused c.in_ok-begin.ensures.found h)

pub returns-in_ok-tree-3-clause-found : goal.returns-in_ok-tree-3-clause-found
returns-in_ok-tree-3-clause-found c = max_read c.in_ok-begin.ensures.found c.in_ok-tree-3.end c.in_ok-tree-3.ensures.found
