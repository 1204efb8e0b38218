use Rattle.std.proofs.Common.{arith, sym, ◌∙◌}
use Rattle.ur_parse_rules.proofs.Steps.{passed}
use Rattle.ur_parse_rules.proofs.Places.{mark_moves}
use Rattle.ur_parse_embed.proofs.Statements.{from_missing, delete_table, delete_filter, delete_more, delete_read}
use Rattle.ur_parse_embed.proofs.change.delete.Goals as goal

pub returns-in_err-table_at-clause-refused : goal.returns-in_err-table_at-clause-refused
returns-in_err-table_at-clause-refused c = passed _ _ c.from_residual.ensures.1 c.in_err-table_at.ensures.refused (λ r h. from_missing c.requires h)

pub returns-in_err-table-clause-refused : goal.returns-in_err-table-clause-refused
returns-in_err-table-clause-refused c = passed _ _ c.from_residual-in_err-table.ensures.1 c.in_err-table.ensures.refused (λ r h. delete_table c.requires c.in_ok-table_at.ensures.found (h _))

pub returns-in_err-filter-clause-refused : goal.returns-in_err-filter-clause-refused
returns-in_err-filter-clause-refused c = passed _ _ c.from_residual-in_err-filter.ensures.1 c.in_err-filter.ensures.refused (λ r h. delete_filter c.requires c.in_ok-table_at.ensures.found c.in_ok-table.filter_at (c.in_ok-table.ensures.found _) h)

pub returns-in_err-finished-clause-refused : goal.returns-in_err-finished-clause-refused
returns-in_err-finished-clause-refused c = passed _ _ c.from_residual-in_err-finished.ensures.1 c.in_err-finished.ensures.refused (λ r h. delete_more c.requires c.in_ok-table_at.ensures.found c.in_ok-table.filter_at (c.in_ok-table.ensures.found _) c.in_ok-filter.end c.in_ok-filter.ensures.found h.0 (sym c.change_goes_on.ensures ∙ h.1))

pub returns-clause-found : goal.returns-clause-found
returns-clause-found c = let s = c.span-covered.ensures in rw s (delete_read c.requires c.in_ok-table_at.ensures.found c.in_ok-table.filter_at (c.in_ok-table.ensures.found _) c.in_ok-filter.end c.in_ok-filter.ensures.found (let m1 = (mark_moves c.requires).on in let m2 = (mark_moves c.in_ok-table_at.ensures.found).on in let w = c.in_ok-table.ensures.moves in let m3 = w.on in let m4 = c.in_ok-filter.ensures.on in record { on = omega (arith, m1, m2, m3, m4); within = c.in_ok-filter.ensures.within w.within }) (sym c.change_goes_on.ensures ∙ c.in_ok-finished.ensures.found))
