use Rattle.ur_parse_rules.proofs.Steps.{passed}
use Rattle.ur_parse_embed.specs.Pieces.{no_open, no_inner, no_close}
use Rattle.ur_parse_embed.proofs.selection.argument.Goals as goal

pub returns-in_err-begin-clause-refused : goal.returns-in_err-begin-clause-refused
returns-in_err-begin-clause-refused c = passed _ _ c.from_residual.ensures.1 c.in_err-begin.ensures.refused (λ r h. no_open h)

pub returns-in_err-inner-clause-refused : goal.returns-in_err-inner-clause-refused
returns-in_err-inner-clause-refused c = passed _ _ c.from_residual-in_err-inner.ensures.1 c.in_err-inner.ensures.refused (λ r h. no_inner _ c.in_ok-begin.ensures.found h)

pub returns-in_err-end-clause-refused : goal.returns-in_err-end-clause-refused
returns-in_err-end-clause-refused c = passed _ _ c.from_residual-in_err-end.ensures.1 c.in_err-end.ensures.refused (λ r h. no_close _ _ _ c.in_ok-begin.ensures.found c.in_ok-inner.ensures.found.read h)

pub returns-clause-found : goal.returns-clause-found
returns-clause-found c = let m = c.in_ok-inner.ensures.found in record { of = m.of; read = record { begin = _; middle = c.in_ok-inner.middle; opened = c.in_ok-begin.ensures.found; inner = m.read; closed = c.in_ok-end.ensures.found }; made = m.made }
