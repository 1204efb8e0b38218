use Rattle.ur_sqltype.proofs.Exits.{refused-exit}
use Rattle.ur_sqltype.proofs.SqltableValues.{stands_there}
use Rattle.ur_sqltype.proofs.keys.keys_of.Goals as goal

pub returns-in_err-key-clause-refused : goal.returns-in_err-key-clause-refused
returns-in_err-key-clause-refused c =
    refused-exit c.from_residual.result c.in_err-key.field-0.0 c.from_residual.ensures.1
    (λ r f. record { key = c.index-keys-i.result; stands = stands_there c.args.keys.now c.loop-i.i c.index-keys-i.result c.loop-i-test.true c.index-keys-i.is; fault = f }) c.in_err-key.ensures.refused
