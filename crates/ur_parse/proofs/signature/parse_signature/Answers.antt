use Rattle.std.proofs.Common.{arith}
use Rattle.ur_parse_rules.proofs.Steps.{passed, made}
use Rattle.ur_parse.proofs.Items.{vals_start, vals_more, signature_refused, signature_done, signature_open}
use Rattle.ur_parse.proofs.signature.parse_signature.Goals as goal

pub vals-init : goal.vals-init
vals-init c = let e = c.new-vals.ensures in rw e (record { within = omega arith; read = vals_start 256 c.args.tokens.now })

pub returns-in_err-next-clause-refused : goal.returns-in_err-next-clause-refused
returns-in_err-next-clause-refused c = passed _ _ c.from_residual.ensures.1 c.in_err-next.ensures.refused (λ r h. signature_refused c.vals.invariant.read (c.sees.ensures.yes c.vals-test.true) h)

pub vals-preserved : goal.vals-preserved
vals-preserved c = let p = c.in_ok-pushed.ensures.found in rw p (record { within = c.in_ok-next.ensures.moves.within; read = vals_more c.in_ok-next.next.end c.vals.invariant.read (c.sees.ensures.yes c.vals-test.true) c.in_ok-next.ensures.found })

pub returns-then-at-len-clause-refused : goal.returns-then-at-len-clause-refused
returns-then-at-len-clause-refused c = made _ c.unexpected.ensures (λ r s. signature_open c.vals.invariant.read (c.sees.ensures.no c.vals-test.false) (omega arith) s)

pub returns-clause-found : goal.returns-clause-found
returns-clause-found c = signature_done c.vals.invariant.read (omega arith)
