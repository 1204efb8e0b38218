use Rattle.std.proofs.Common.{arith, sym, ◌∙◌}
use Rattle.ur_parse_rules.proofs.Steps.{passed}
use Rattle.ur_parse_rules.specs.Ends.{sql_last}
use Rattle.ur_parse_rules.specs.SqlParts as s
use Rattle.ur_parse_embed.proofs.Growing.{from_here, from_more}
use Rattle.ur_parse_embed.proofs.Ordering.{MoreKeys, NoMoreKeys, keys_refused, keys_more, keys_ended, keys_done}
use Rattle.ur_parse_embed.proofs.clauses.more_keys.Goals as goal

pub keys-init : goal.keys-init
keys-init c = record { start = omega arith; within = λ h. h; from = from_here (MoreKeys c.args.depth) (NoMoreKeys c.args.depth) c.args.tokens.now c.args.depth c.args.at _ c.args.list.now }

pub returns-in_err-key-clause-refused : goal.returns-in_err-key-clause-refused
returns-in_err-key-clause-refused c = passed _ _ c.from_residual.ensures.1 c.in_err-key.ensures.refused (λ r h. keys_refused c.keys.invariant.from.grown (c.sees.ensures.yes c.keys-test.true) h)

pub keys-preserved : goal.keys-preserved
keys-preserved c = let s = c.keys.invariant.start in let m = c.in_ok-key.ensures.moves in let o = m.on in let p = c.in_ok-pushed.ensures.found in let g = c.keys.invariant.from in record {
  start = omega (arith, s, o);
  within = λ h. m.within;
  from = from_more c.in_ok-key.key g p (keys_more g.grown (c.sees.ensures.yes c.keys-test.true) c.in_ok-key.next c.in_ok-key.ensures.found);
}

pub returns-in_err-finished-clause-refused : goal.returns-in_err-finished-clause-refused
returns-in_err-finished-clause-refused c = passed _ _ c.from_residual-in_err-finished.ensures.1 c.in_err-finished.ensures.refused (λ r h. keys_ended c.keys.invariant.from.grown (c.sees.ensures.no c.keys-test.false) h.0 (sym (c.comma_or.ensures (sql_last s.order_key) c.key_goes_on-again.ensures) ∙ h.1))

pub returns-clause-found : goal.returns-clause-found
returns-clause-found c = let g = c.keys.invariant.from in record { more = g.more; is = g.is; makes = keys_done g.grown (sym (c.comma_or.ensures (sql_last s.order_key) c.key_goes_on-again.ensures) ∙ c.in_ok-finished.ensures.found) }
