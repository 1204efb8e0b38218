use Rattle.std.proofs.Common.{arith}
use Rattle.ur_parse_rules.proofs.Steps.{passed}
use Rattle.ur_parse_embed.proofs.Growing.{from_here, from_more}
use Rattle.ur_parse_embed.proofs.Changing.{ValuesEnd, NoValuesEnd, values_refused, values_more, values_open, values_done}
use Rattle.ur_parse_embed.proofs.insert.values_end.Goals as goal

pub values-init : goal.values-init
values-init c = record { start = omega arith; within = λ h. h; from = from_here (ValuesEnd c.args.depth) (NoValuesEnd c.args.depth) c.args.tokens.now c.args.depth c.args.at _ c.args.list.now }

pub returns-in_err-value-clause-refused : goal.returns-in_err-value-clause-refused
returns-in_err-value-clause-refused c = passed _ _ c.from_residual.ensures.1 c.in_err-value.ensures.refused (λ r h. values_refused c.values.invariant.from.grown (c.sees.ensures.yes c.values-test.true) h)

pub values-preserved : goal.values-preserved
values-preserved c = let s = c.values.invariant.start in let m = c.in_ok-value.ensures.moves in let o = m.on in let p = c.in_ok-pushed.ensures.found in let g = c.values.invariant.from in record {
  start = omega (arith, s, o);
  within = λ h. m.within;
  from = from_more c.in_ok-value.value g p (values_more g.grown (c.sees.ensures.yes c.values-test.true) c.in_ok-value.next c.in_ok-value.ensures.found);
}

pub returns-in_err-close-clause-refused : goal.returns-in_err-close-clause-refused
returns-in_err-close-clause-refused c = passed _ _ c.from_residual-in_err-close.ensures.1 c.in_err-close.ensures.refused (λ r h. values_open c.values.invariant.from.grown (c.sees.ensures.no c.values-test.false) h)

pub returns-clause-found : goal.returns-clause-found
returns-clause-found c = let g = c.values.invariant.from in record { more = g.more; is = g.is; makes = values_done g.grown c.in_ok-close.ensures.found }
