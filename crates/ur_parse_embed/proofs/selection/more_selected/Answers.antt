use Rattle.std.proofs.Common.{arith, sym, ◌∙◌}
use Rattle.ur_parse_rules.proofs.Steps.{passed}
use Rattle.ur_parse_embed.proofs.Growing.{from_here, from_more}
use Rattle.ur_parse_embed.proofs.Selecting.{MoreSelected, NoMoreSelected, items_refused, items_more, items_ended, items_done}
use Rattle.ur_parse_embed.proofs.selection.more_selected.Goals as goal

pub items-init : goal.items-init
items-init c = record { start = omega arith; within = λ h. h; from = from_here (MoreSelected c.args.depth) (NoMoreSelected c.args.depth) c.args.tokens.now c.args.depth c.args.at _ c.args.list.now }

pub returns-in_err-item-clause-refused : goal.returns-in_err-item-clause-refused
returns-in_err-item-clause-refused c = passed _ _ c.from_residual.ensures.1 c.in_err-item.ensures.refused (λ r h. items_refused c.items.invariant.from.grown (c.sees.ensures.yes c.items-test.true) h)

pub items-preserved : goal.items-preserved
items-preserved c = let s = c.items.invariant.start in let m = c.in_ok-item.ensures.moves in let o = m.on in let p = c.in_ok-pushed.ensures.found in let g = c.items.invariant.from in record {
  start = omega (arith, s, o);
  within = λ h. m.within;
  from = from_more c.in_ok-item.item g p (items_more g.grown (c.sees.ensures.yes c.items-test.true) c.in_ok-item.next c.in_ok-item.ensures.found);
}

pub returns-in_err-finished-clause-refused : goal.returns-in_err-finished-clause-refused
returns-in_err-finished-clause-refused c = passed _ _ c.from_residual-in_err-finished.ensures.1 c.in_err-finished.ensures.refused (λ r h. items_ended c.items.invariant.from.grown (c.sees.ensures.no c.items-test.false) h.0 (sym c.selection_goes_on.ensures ∙ h.1))

pub returns-clause-found : goal.returns-clause-found
returns-clause-found c = let g = c.items.invariant.from in record { more = g.more; is = g.is; makes = items_done g.grown (sym c.selection_goes_on.ensures ∙ c.in_ok-finished.ensures.found) }
