use Rattle.std.proofs.Common.{arith, sym, ◌∙◌}
use Rattle.ur_parse_rules.proofs.Steps.{passed}
use Rattle.ur_parse_rules.proofs.Places.{mark_moves}
use Rattle.ur_parse_embed.proofs.Statements.{update_table, set_missing, first_refused, more_refused, update_filter, update_more, update_read}
use Rattle.ur_parse_embed.proofs.change.update.Goals as goal

pub returns-in_err-table-clause-refused : goal.returns-in_err-table-clause-refused
returns-in_err-table-clause-refused c = passed _ _ c.from_residual.ensures.1 c.in_err-table.ensures.refused (λ r h. update_table c.requires (h _))

pub returns-in_err-first_at-clause-refused : goal.returns-in_err-first_at-clause-refused
returns-in_err-first_at-clause-refused c = passed _ _ c.from_residual-in_err-first_at.ensures.1 c.in_err-first_at.ensures.refused (λ r h. set_missing c.requires c.in_ok-table.word (c.in_ok-table.ensures.found _) h)

pub returns-in_err-first-clause-refused : goal.returns-in_err-first-clause-refused
returns-in_err-first-clause-refused c = passed _ _ c.from_residual-in_err-first.ensures.1 c.in_err-first.ensures.refused (λ r h. first_refused c.requires c.in_ok-table.word (c.in_ok-table.ensures.found _) c.in_ok-first_at.ensures.found h)

pub returns-in_err-filter_at-clause-refused : goal.returns-in_err-filter_at-clause-refused
returns-in_err-filter_at-clause-refused c = passed _ _ c.from_residual-in_err-filter_at.ensures.1 c.in_err-filter_at.ensures.refused (λ r h. more_refused c.requires c.in_ok-table.word (c.in_ok-table.ensures.found _) c.in_ok-first_at.ensures.found c.in_ok-first.more_at c.in_ok-first.ensures.found h)

pub returns-in_err-filter-clause-refused : goal.returns-in_err-filter-clause-refused
returns-in_err-filter-clause-refused c = passed _ _ c.from_residual-in_err-filter.ensures.1 c.in_err-filter.ensures.refused (λ r h. update_filter c.requires c.in_ok-table.word (c.in_ok-table.ensures.found _) c.in_ok-first_at.ensures.found c.in_ok-first.more_at c.in_ok-first.ensures.found c.in_ok-filter_at.filter_at c.in_ok-filter_at.ensures.found h)

pub returns-in_err-finished-clause-refused : goal.returns-in_err-finished-clause-refused
returns-in_err-finished-clause-refused c = passed _ _ c.from_residual-in_err-finished.ensures.1 c.in_err-finished.ensures.refused (λ r h. update_more c.requires c.in_ok-table.word (c.in_ok-table.ensures.found _) c.in_ok-first_at.ensures.found c.in_ok-first.more_at c.in_ok-first.ensures.found c.in_ok-filter_at.filter_at c.in_ok-filter_at.ensures.found c.in_ok-filter.end c.in_ok-filter.ensures.found h.0 (sym c.change_goes_on.ensures ∙ h.1))

pub returns-clause-found : goal.returns-clause-found
returns-clause-found c = let s = c.span-covered.ensures in rw s (update_read c.requires c.in_ok-table.word (c.in_ok-table.ensures.found _) c.in_ok-first_at.ensures.found c.in_ok-first.more_at c.in_ok-first.ensures.found c.in_ok-filter_at.filter_at c.in_ok-filter_at.ensures.found c.in_ok-filter.end c.in_ok-filter.ensures.found c.in_ok-list.ensures.found (let m1 = (mark_moves c.requires).on in let m2 = c.in_ok-table.ensures.moves.on in let m3 = (mark_moves c.in_ok-first_at.ensures.found).on in let w = c.in_ok-first.ensures.moves in let m4 = w.on in let m5 = c.in_ok-filter_at.ensures.on in let m6 = c.in_ok-filter.ensures.on in record { on = omega (arith, m1, m2, m3, m4, m5, m6); within = c.in_ok-filter.ensures.within (c.in_ok-filter_at.ensures.within w.within) }) (sym c.change_goes_on.ensures ∙ c.in_ok-finished.ensures.found))
