use Rattle.std.proofs.Common.{arith, sym, ◌∙◌}
use Rattle.ur_parse_rules.proofs.Steps.{passed}
use Rattle.ur_parse_embed.proofs.Growing.{from_here, from_more}
use Rattle.ur_parse_embed.proofs.Joining.{MoreItems, NoMoreItems, next_refused, next_more, items_ended, items_done}
use Rattle.ur_parse_embed.proofs.from.more_items.Goals as goal

pub items-init : goal.items-init
items-init c = record { start = omega arith; within = λ h. h; from = from_here (MoreItems c.args.depth) (NoMoreItems c.args.depth) c.args.tokens.now c.args.depth c.args.at _ c.args.list.now }

pub returns-in_err-found-clause-refused : goal.returns-in_err-found-clause-refused
returns-in_err-found-clause-refused c = passed _ _ c.from_residual.ensures.1 c.in_err-found.ensures.refused (λ r h. next_refused c.items.invariant.from.grown (sym c.item_follows.ensures ∙ c.items-test.true) h)

pub items-preserved : goal.items-preserved
items-preserved c = let s = c.items.invariant.start in let m = c.in_ok-found.ensures.moves in let o = m.on in let p = c.in_ok-pushed.ensures.found in let g = c.items.invariant.from in record {
  start = omega (arith, s, o);
  within = λ h. m.within;
  from = from_more c.in_ok-found.found g p (next_more g.grown c.in_ok-found.next c.in_ok-found.ensures.found);
}

pub returns-in_err-finished-clause-refused : goal.returns-in_err-finished-clause-refused
returns-in_err-finished-clause-refused c = passed _ _ c.from_residual-in_err-finished.ensures.1 c.in_err-finished.ensures.refused (λ r h. items_ended c.items.invariant.from.grown (sym c.item_follows.ensures ∙ c.items-test.false) h.0 (sym c.items_go_on.ensures ∙ h.1))

pub returns-clause-found : goal.returns-clause-found
returns-clause-found c = let g = c.items.invariant.from in record { more = g.more; is = g.is; makes = items_done g.grown (sym c.items_go_on.ensures ∙ c.in_ok-finished.ensures.found) }
