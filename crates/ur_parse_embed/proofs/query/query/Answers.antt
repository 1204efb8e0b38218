use Rattle.std.proofs.Common.{arith, sym, ◌∙◌}
use Rattle.ur_parse_rules.proofs.Steps.{passed}
use Rattle.ur_parse_rules.proofs.Places.{mark_moves}
use Rattle.ur_parse_embed.proofs.Querying.{select_missing, selection_refused, from_missing, item_refused, items_refused, filter_refused, group_refused, order_refused, limit_refused, offset_refused, query_more, query_read}
use Rattle.ur_parse_embed.proofs.query.query.Goals as goal

pub returns-in_err-begin-clause-refused : goal.returns-in_err-begin-clause-refused
returns-in_err-begin-clause-refused c = passed _ _ c.from_residual.ensures.1 c.in_err-begin.ensures.refused (λ r h. select_missing c.args.tokens.now c.args.at h)

pub returns-in_err-selection-clause-refused : goal.returns-in_err-selection-clause-refused
returns-in_err-selection-clause-refused c = passed _ _ c.from_residual-in_err-selection.ensures.1 c.in_err-selection.ensures.refused (λ r h. selection_refused c.args.tokens.now c.args.at c.in_ok-begin.ensures.found h)

pub returns-in_err-item_at-clause-refused : goal.returns-in_err-item_at-clause-refused
returns-in_err-item_at-clause-refused c = passed _ _ c.from_residual-in_err-item_at.ensures.1 c.in_err-item_at.ensures.refused (λ r h. from_missing c.args.tokens.now c.args.at c.in_ok-begin.ensures.found c.in_ok-selection.from_at c.in_ok-selection.ensures.found h)

pub returns-in_err-first-clause-refused : goal.returns-in_err-first-clause-refused
returns-in_err-first-clause-refused c = passed _ _ c.from_residual-in_err-first.ensures.1 c.in_err-first.ensures.refused (λ r h. item_refused c.args.tokens.now c.args.at c.in_ok-begin.ensures.found c.in_ok-selection.from_at c.in_ok-selection.ensures.found c.in_ok-item_at.ensures.found (h _))

pub returns-in_err-filter_at-clause-refused : goal.returns-in_err-filter_at-clause-refused
returns-in_err-filter_at-clause-refused c = passed _ _ c.from_residual-in_err-filter_at.ensures.1 c.in_err-filter_at.ensures.refused (λ r h. items_refused c.args.tokens.now c.args.at c.in_ok-begin.ensures.found c.in_ok-selection.from_at c.in_ok-selection.ensures.found c.in_ok-item_at.ensures.found c.in_ok-first.items_at (c.in_ok-first.ensures.found _) h)

pub returns-in_err-filter-clause-refused : goal.returns-in_err-filter-clause-refused
returns-in_err-filter-clause-refused c = passed _ _ c.from_residual-in_err-filter.ensures.1 c.in_err-filter.ensures.refused (λ r h. filter_refused c.args.tokens.now c.args.at c.in_ok-begin.ensures.found c.in_ok-selection.from_at c.in_ok-selection.ensures.found c.in_ok-item_at.ensures.found c.in_ok-first.items_at (c.in_ok-first.ensures.found _) c.in_ok-filter_at.filter_at c.in_ok-filter_at.ensures.found h)

pub returns-in_err-group-clause-refused : goal.returns-in_err-group-clause-refused
returns-in_err-group-clause-refused c = passed _ _ c.from_residual-in_err-group.ensures.1 c.in_err-group.ensures.refused (λ r h. group_refused c.args.tokens.now c.args.at c.in_ok-begin.ensures.found c.in_ok-selection.from_at c.in_ok-selection.ensures.found c.in_ok-item_at.ensures.found c.in_ok-first.items_at (c.in_ok-first.ensures.found _) c.in_ok-filter_at.filter_at c.in_ok-filter_at.ensures.found c.in_ok-filter.group_at c.in_ok-filter.ensures.found (h _))

pub returns-in_err-order-clause-refused : goal.returns-in_err-order-clause-refused
returns-in_err-order-clause-refused c = passed _ _ c.from_residual-in_err-order.ensures.1 c.in_err-order.ensures.refused (λ r h. order_refused c.args.tokens.now c.args.at c.in_ok-begin.ensures.found c.in_ok-selection.from_at c.in_ok-selection.ensures.found c.in_ok-item_at.ensures.found c.in_ok-first.items_at (c.in_ok-first.ensures.found _) c.in_ok-filter_at.filter_at c.in_ok-filter_at.ensures.found c.in_ok-filter.group_at c.in_ok-filter.ensures.found c.in_ok-group.order_at (c.in_ok-group.ensures.found _) h)

pub returns-in_err-limit-clause-refused : goal.returns-in_err-limit-clause-refused
returns-in_err-limit-clause-refused c = passed _ _ c.from_residual-in_err-limit.ensures.1 c.in_err-limit.ensures.refused (λ r h. limit_refused c.args.tokens.now c.args.at c.in_ok-begin.ensures.found c.in_ok-selection.from_at c.in_ok-selection.ensures.found c.in_ok-item_at.ensures.found c.in_ok-first.items_at (c.in_ok-first.ensures.found _) c.in_ok-filter_at.filter_at c.in_ok-filter_at.ensures.found c.in_ok-filter.group_at c.in_ok-filter.ensures.found c.in_ok-group.order_at (c.in_ok-group.ensures.found _) c.in_ok-order.limit_at c.in_ok-order.ensures.found h)

pub returns-in_err-offset-clause-refused : goal.returns-in_err-offset-clause-refused
returns-in_err-offset-clause-refused c = passed _ _ c.from_residual-in_err-offset.ensures.1 c.in_err-offset.ensures.refused (λ r h. offset_refused c.args.tokens.now c.args.at c.in_ok-begin.ensures.found c.in_ok-selection.from_at c.in_ok-selection.ensures.found c.in_ok-item_at.ensures.found c.in_ok-first.items_at (c.in_ok-first.ensures.found _) c.in_ok-filter_at.filter_at c.in_ok-filter_at.ensures.found c.in_ok-filter.group_at c.in_ok-filter.ensures.found c.in_ok-group.order_at (c.in_ok-group.ensures.found _) c.in_ok-order.limit_at c.in_ok-order.ensures.found c.in_ok-limit.offset_at c.in_ok-limit.ensures.found h)

pub returns-in_err-finished-clause-refused : goal.returns-in_err-finished-clause-refused
returns-in_err-finished-clause-refused c = passed _ _ c.from_residual-in_err-finished.ensures.1 c.in_err-finished.ensures.refused (λ r h. query_more c.args.tokens.now c.args.at c.in_ok-begin.ensures.found c.in_ok-selection.from_at c.in_ok-selection.ensures.found c.in_ok-item_at.ensures.found c.in_ok-first.items_at (c.in_ok-first.ensures.found _) c.in_ok-filter_at.filter_at c.in_ok-filter_at.ensures.found c.in_ok-filter.group_at c.in_ok-filter.ensures.found c.in_ok-group.order_at (c.in_ok-group.ensures.found _) c.in_ok-order.limit_at c.in_ok-order.ensures.found c.in_ok-limit.offset_at c.in_ok-limit.ensures.found c.in_ok-offset.end c.in_ok-offset.ensures.found h.0 (sym c.query_goes_on.ensures ∙ h.1))

pub returns-clause-found : goal.returns-clause-found
returns-clause-found c = let s = c.span-covered.ensures in rw s (query_read c.args.tokens.now c.args.at c.in_ok-begin.ensures.found c.in_ok-selection.from_at c.in_ok-selection.ensures.found c.in_ok-item_at.ensures.found c.in_ok-first.items_at (c.in_ok-first.ensures.found _) c.in_ok-filter_at.filter_at c.in_ok-filter_at.ensures.found c.in_ok-filter.group_at c.in_ok-filter.ensures.found c.in_ok-group.order_at (c.in_ok-group.ensures.found _) c.in_ok-order.limit_at c.in_ok-order.ensures.found c.in_ok-limit.offset_at c.in_ok-limit.ensures.found c.in_ok-offset.end c.in_ok-offset.ensures.found c.in_ok-from.ensures.found (let m1 = (mark_moves c.in_ok-begin.ensures.found).on in let m2 = c.in_ok-selection.ensures.moves.on in let m3 = (mark_moves c.in_ok-item_at.ensures.found).on in let w = c.in_ok-first.ensures.moves in let m4 = w.on in let m5 = c.in_ok-filter_at.ensures.on in let m6 = c.in_ok-filter.ensures.on in let m7 = c.in_ok-group.ensures.on in let m8 = c.in_ok-order.ensures.on in let m9 = c.in_ok-limit.ensures.on in let m10 = c.in_ok-offset.ensures.on in record {
  on = omega (arith, m1, m2, m3, m4, m5, m6, m7, m8, m9, m10);
  within = c.in_ok-offset.ensures.within (c.in_ok-limit.ensures.within (c.in_ok-order.ensures.within (c.in_ok-group.ensures.within (c.in_ok-filter.ensures.within (c.in_ok-filter_at.ensures.within w.within)))));
}) (sym c.query_goes_on.ensures ∙ c.in_ok-finished.ensures.found))
