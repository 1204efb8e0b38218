use Rattle.ur_parse_rules.proofs.Steps.{passed}
use Rattle.ur_parse_embed_code.proofs.Codes.{anti_brace, anti_bracket, anti_code, anti_open, anti_end, anti_read}
use Rattle.ur_parse_embed_code.proofs.code.shown.Goals as goal

pub returns-in_err-brace-clause-refused : goal.returns-in_err-brace-clause-refused
returns-in_err-brace-clause-refused c = passed _ _ c.from_residual.ensures.1 c.in_err-brace.ensures.refused (λ r h n. anti_brace c.args.tokens.now c.args.at h)

pub returns-in_err-begin-clause-refused : goal.returns-in_err-begin-clause-refused
returns-in_err-begin-clause-refused c = passed _ _ c.from_residual-in_err-begin.ensures.1 c.in_err-begin.ensures.refused (λ r h n. anti_bracket c.in_ok-brace.ensures.found h)

pub returns-in_err-number-clause-refused : goal.returns-in_err-number-clause-refused
returns-in_err-number-clause-refused c = passed _ _ c.from_residual-in_err-number.ensures.1 c.in_err-number.ensures.refused (λ r h n. anti_code c.in_ok-brace.ensures.found c.in_ok-begin.ensures.found (h n))

pub returns-in_err-close-clause-refused : goal.returns-in_err-close-clause-refused
returns-in_err-close-clause-refused c = passed _ _ c.from_residual-in_err-close.ensures.1 c.in_err-close.ensures.refused (λ r h n. anti_open c.in_ok-brace.ensures.found c.in_ok-begin.ensures.found c.in_ok-number.bracket (c.in_ok-number.ensures.found.read n) h)

pub returns-in_err-end-clause-refused : goal.returns-in_err-end-clause-refused
returns-in_err-end-clause-refused c = passed _ _ c.from_residual-in_err-end.ensures.1 c.in_err-end.ensures.refused
    (λ r h n. anti_end c.in_ok-brace.ensures.found c.in_ok-begin.ensures.found c.in_ok-number.bracket (c.in_ok-number.ensures.found.read n) c.in_ok-close.ensures.found h)

pub returns-clause-found : goal.returns-clause-found
returns-clause-found c = let h = c.in_ok-number.ensures.found in record {
  code = h.code;
  read = λ n. anti_read c.in_ok-brace.ensures.found c.in_ok-begin.ensures.found c.in_ok-number.bracket (h.read n) c.in_ok-close.ensures.found c.in_ok-end.ensures.found;
  made = h.made;
}
