use Rattle.std.proofs.Common.{arith}
use Rattle.ur_parse_rules.proofs.Steps.{passed}
use Rattle.ur_parse_embed.proofs.Growing.{added_here}
use Rattle.ur_parse_embed.proofs.Filtering.{MoreColumns, NoMoreColumns, columns_refused, columns_more, columns_done}
use Rattle.ur_parse_embed.proofs.clauses.more_columns.Goals as goal

pub columns-init : goal.columns-init
columns-init c = record { start = omega arith; within = λ h. h; from = added_here MoreColumns NoMoreColumns c.args.tokens.now c.args.at c.args.list.now }

pub returns-in_err-column-clause-refused : goal.returns-in_err-column-clause-refused
returns-in_err-column-clause-refused c = passed _ _ c.from_residual.ensures.1 c.in_err-column.ensures.refused (λ r h. columns_refused c.columns.invariant.from (c.sees.ensures.yes c.columns-test.true) h)

pub columns-preserved : goal.columns-preserved
columns-preserved c = let s = c.columns.invariant.start in let m = c.in_ok-column.ensures.moves in let o = m.on in let p = c.in_ok-pushed.ensures.found in record {
  start = omega (arith, s, o);
  within = λ h. m.within;
  from = rw p (columns_more c.columns.invariant.from (c.sees.ensures.yes c.columns-test.true) c.in_ok-column.next c.in_ok-column.ensures.found);
}

pub returns-clause-found : goal.returns-clause-found
returns-clause-found c = columns_done c.columns.invariant.from (c.sees.ensures.no c.columns-test.false)
