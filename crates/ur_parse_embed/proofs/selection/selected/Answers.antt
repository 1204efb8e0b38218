use Rattle.std.proofs.Common.{sym, ◌∙◌}
use Rattle.ur_parse_rules.proofs.Steps.{passed}
use Rattle.ur_parse_rules.proofs.Places.{moves_on}
use Rattle.ur_parse_embed.proofs.Selecting.{aggregate_refused, aggregate_unnamed, aggregate_more, aggregate_read, column_refused, column_more, column_read, exp_refused, exp_unnamed, exp_more, exp_read}
use Rattle.ur_parse_embed.proofs.selection.selected.Goals as goal

pub returns-in_err-aggregate-clause-refused : goal.returns-in_err-aggregate-clause-refused
returns-in_err-aggregate-clause-refused c = passed _ _ c.from_residual.ensures.1 c.in_err-aggregate.ensures.refused (λ r h. aggregate_refused c.args.tokens.now c.args.at (sym c.sees_aggregate.ensures ∙ c.if-sees_aggregate.true) h)

pub returns-in_err-name-clause-refused : goal.returns-in_err-name-clause-refused
returns-in_err-name-clause-refused c = passed _ _ c.from_residual-in_err-name.ensures.1 c.in_err-name.ensures.refused (λ r h. aggregate_unnamed c.args.tokens.now c.args.at (sym c.sees_aggregate.ensures ∙ c.if-sees_aggregate.true) c.in_ok-aggregate.middle c.in_ok-aggregate.ensures.found h)

pub returns-in_err-finished-clause-refused : goal.returns-in_err-finished-clause-refused
returns-in_err-finished-clause-refused c = passed _ _ c.from_residual-in_err-finished.ensures.1 c.in_err-finished.ensures.refused (λ r h. aggregate_more c.args.tokens.now c.args.at (sym c.sees_aggregate.ensures ∙ c.if-sees_aggregate.true) c.in_ok-aggregate.middle c.in_ok-aggregate.ensures.found c.in_ok-name.end c.in_ok-name.ensures.found h.0 (sym c.item_goes_on.ensures ∙ h.1))

pub returns-in_ok-finished-clause-found : goal.returns-in_ok-finished-clause-found
returns-in_ok-finished-clause-found c = let s = c.span-covered.ensures in rw s (aggregate_read c.args.tokens.now c.args.at (sym c.sees_aggregate.ensures ∙ c.if-sees_aggregate.true) c.in_ok-aggregate.middle c.in_ok-aggregate.ensures.found c.in_ok-name.end c.in_ok-name.ensures.found (moves_on c.in_ok-aggregate.ensures.moves c.in_ok-name.ensures.moves) (sym c.item_goes_on.ensures ∙ c.in_ok-finished.ensures.found))

pub returns-in_err-column-clause-refused : goal.returns-in_err-column-clause-refused
returns-in_err-column-clause-refused c = passed _ _ c.from_residual-in_err-column.ensures.1 c.in_err-column.ensures.refused (λ r h. column_refused c.args.tokens.now c.args.at (sym c.sees_aggregate.ensures ∙ c.if-sees_aggregate.false) (sym c.sees_column.ensures ∙ c.if-sees_column.true) (h _))

pub returns-in_err-finished-2-clause-refused : goal.returns-in_err-finished-2-clause-refused
returns-in_err-finished-2-clause-refused c = passed _ _ c.from_residual-in_err-finished-2.ensures.1 c.in_err-finished-2.ensures.refused (λ r h. column_more c.args.tokens.now c.args.at (sym c.sees_aggregate.ensures ∙ c.if-sees_aggregate.false) (sym c.sees_column.ensures ∙ c.if-sees_column.true) c.in_ok-column.end (c.in_ok-column.ensures.found _) h.0 (sym c.item_goes_on-then-sees_column.ensures ∙ h.1))

pub returns-in_ok-finished-2-clause-found : goal.returns-in_ok-finished-2-clause-found
returns-in_ok-finished-2-clause-found c = column_read c.args.tokens.now c.args.at (sym c.sees_aggregate.ensures ∙ c.if-sees_aggregate.false) (sym c.sees_column.ensures ∙ c.if-sees_column.true) c.in_ok-column.end (c.in_ok-column.ensures.found _) _ (sym c.item_goes_on-then-sees_column.ensures ∙ c.in_ok-finished-2.ensures.found)

pub returns-in_err-inner-clause-refused : goal.returns-in_err-inner-clause-refused
returns-in_err-inner-clause-refused c = passed _ _ c.from_residual-in_err-inner.ensures.1 c.in_err-inner.ensures.refused (λ r h. exp_refused c.args.tokens.now c.args.at (sym c.sees_aggregate.ensures ∙ c.if-sees_aggregate.false) (sym c.sees_column.ensures ∙ c.if-sees_column.false) h)

pub returns-in_err-name-2-clause-refused : goal.returns-in_err-name-2-clause-refused
returns-in_err-name-2-clause-refused c = passed _ _ c.from_residual-in_err-name-2.ensures.1 c.in_err-name-2.ensures.refused (λ r h. exp_unnamed c.args.tokens.now c.args.at (sym c.sees_aggregate.ensures ∙ c.if-sees_aggregate.false) (sym c.sees_column.ensures ∙ c.if-sees_column.false) c.in_ok-inner.middle c.in_ok-inner.ensures.found h)

pub returns-in_err-finished-3-clause-refused : goal.returns-in_err-finished-3-clause-refused
returns-in_err-finished-3-clause-refused c = passed _ _ c.from_residual-in_err-finished-3.ensures.1 c.in_err-finished-3.ensures.refused (λ r h. exp_more c.args.tokens.now c.args.at (sym c.sees_aggregate.ensures ∙ c.if-sees_aggregate.false) (sym c.sees_column.ensures ∙ c.if-sees_column.false) c.in_ok-inner.middle c.in_ok-inner.ensures.found c.in_ok-name-2.end c.in_ok-name-2.ensures.found h.0 (sym c.item_goes_on-else-sees_column.ensures ∙ h.1))

pub returns-in_ok-finished-3-clause-found : goal.returns-in_ok-finished-3-clause-found
returns-in_ok-finished-3-clause-found c = exp_read c.args.tokens.now c.args.at (sym c.sees_aggregate.ensures ∙ c.if-sees_aggregate.false) (sym c.sees_column.ensures ∙ c.if-sees_column.false) c.in_ok-inner.middle c.in_ok-inner.ensures.found c.in_ok-name-2.end c.in_ok-name-2.ensures.found (sym c.item_goes_on-else-sees_column.ensures ∙ c.in_ok-finished-3.ensures.found)
