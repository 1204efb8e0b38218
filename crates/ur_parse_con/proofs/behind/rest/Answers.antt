use Rattle.std.proofs.Common.{refl, inr}
use Rattle.ur_parse_rules.specs.Parts.{argument, of_module}
use Rattle.ur_parse_rules.proofs.Steps.{passed, made}
use Rattle.ur_parse_rules.proofs.Places.{mark_moves, name_moves, moves_on}
use Rattle.ur_parse_con.proofs.Binders.{stays_on, plain_refused, plain_dotted, plain_read, dotted_name, dotted_refused, dotted_dotted, dotted_read}
use Rattle.ur_parse_con.proofs.behind.rest.Goals as goal

pub returns-in_err-inner-clause-refused : goal.returns-in_err-inner-clause-refused
returns-in_err-inner-clause-refused c = passed _ _ c.from_residual.ensures.1 c.in_err-inner.ensures.refused (λ r h n. dotted_name c.args.tokens.now c.args.at (c.sees.ensures.yes c.if-sees.true) h)

pub returns-in_err-bound-clause-refused : goal.returns-in_err-bound-clause-refused
returns-in_err-bound-clause-refused c = passed _ _ c.from_residual-in_err-bound.ensures.1 c.in_err-bound.ensures.refused (λ r h n. dotted_refused c.args.tokens.now c.args.at (c.sees.ensures.yes c.if-sees.true) c.in_ok-inner.ensures.found (h n))

pub returns-then-sees-2-clause-refused : goal.returns-then-sees-2-clause-refused
returns-then-sees-2-clause-refused c = made _ c.unexpected.ensures (λ r s n. dotted_dotted c.args.tokens.now c.args.at (c.sees.ensures.yes c.if-sees.true) c.in_ok-inner.ensures.found (c.in_ok-bound.ensures.found n) s (c.sees-then-sees.ensures.yes c.if-sees-2.true))

pub returns-else-sees-2-clause-stays : goal.returns-else-sees-2-clause-stays
returns-else-sees-2-clause-stays c = inr (stays_on (moves_on (mark_moves (c.sees.ensures.yes c.if-sees.true)) (name_moves c.in_ok-inner.ensures.found)) c.in_ok-bound.ensures.stays)

pub returns-else-sees-2-clause-found : goal.returns-else-sees-2-clause-found
returns-else-sees-2-clause-found c = record {
  rest = of_module c.in_ok-inner.inner c.in_ok-bound.bound;
  is = refl;
  read = λ n. dotted_read c.args.tokens.now c.args.at (c.sees.ensures.yes c.if-sees.true) c.in_ok-inner.ensures.found (c.in_ok-bound.ensures.found n) (c.sees-then-sees.ensures.no c.if-sees-2.false);
}

pub returns-in_err-bound-2-clause-refused : goal.returns-in_err-bound-2-clause-refused
returns-in_err-bound-2-clause-refused c = passed _ _ c.from_residual-in_err-bound-2.ensures.1 c.in_err-bound-2.ensures.refused (λ r h n. plain_refused c.args.tokens.now c.args.at (c.sees.ensures.no c.if-sees.false) (h n))

pub returns-then-sees-3-clause-refused : goal.returns-then-sees-3-clause-refused
returns-then-sees-3-clause-refused c = made _ c.unexpected-then-sees-3.ensures (λ r s n. plain_dotted c.args.tokens.now c.args.at (c.sees.ensures.no c.if-sees.false) (c.in_ok-bound-2.ensures.found n) s (c.sees-else-sees.ensures.yes c.if-sees-3.true))

pub returns-else-sees-3-clause-found : goal.returns-else-sees-3-clause-found
returns-else-sees-3-clause-found c = record {
  rest = argument c.in_ok-bound-2.bound;
  is = refl;
  read = λ n. plain_read c.args.tokens.now c.args.at (c.in_ok-bound-2.ensures.found n) (c.sees-else-sees.ensures.no c.if-sees-3.false);
}
