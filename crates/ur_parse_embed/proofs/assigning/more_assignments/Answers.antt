use Rattle.std.proofs.Common.{arith, sym, ◌∙◌}
use Rattle.ur_parse_rules.proofs.Steps.{passed}
use Rattle.ur_parse_embed.proofs.Growing.{from_here, from_more}
use Rattle.ur_parse_embed.proofs.Changing.{MoreAssignments, NoMoreAssignments, assignments_refused, assignments_more, assignments_ended, assignments_done}
use Rattle.ur_parse_embed.proofs.assigning.more_assignments.Goals as goal

pub assignments-init : goal.assignments-init
assignments-init c = record { start = omega arith; within = λ h. h; from = from_here (MoreAssignments c.args.depth) (NoMoreAssignments c.args.depth) c.args.tokens.now c.args.depth c.args.at _ c.args.list.now }

pub returns-in_err-item-clause-refused : goal.returns-in_err-item-clause-refused
returns-in_err-item-clause-refused c = passed _ _ c.from_residual.ensures.1 c.in_err-item.ensures.refused (λ r h. assignments_refused c.assignments.invariant.from.grown (c.sees.ensures.yes c.assignments-test.true) h)

pub assignments-preserved : goal.assignments-preserved
assignments-preserved c = let s = c.assignments.invariant.start in let m = c.in_ok-item.ensures.moves in let o = m.on in let p = c.in_ok-pushed.ensures.found in let g = c.assignments.invariant.from in record {
  start = omega (arith, s, o);
  within = λ h. m.within;
  from = from_more c.in_ok-item.item g p (assignments_more g.grown (c.sees.ensures.yes c.assignments-test.true) c.in_ok-item.next c.in_ok-item.ensures.found);
}

pub returns-in_err-finished-clause-refused : goal.returns-in_err-finished-clause-refused
returns-in_err-finished-clause-refused c = passed _ _ c.from_residual-in_err-finished.ensures.1 c.in_err-finished.ensures.refused (λ r h. assignments_ended c.assignments.invariant.from.grown (c.sees.ensures.no c.assignments-test.false) h.0 (sym c.assignments_go_on.ensures ∙ h.1))

pub returns-clause-found : goal.returns-clause-found
returns-clause-found c = let g = c.assignments.invariant.from in record { more = g.more; is = g.is; makes = assignments_done g.grown (sym c.assignments_go_on.ensures ∙ c.in_ok-finished.ensures.found) }
