use Rattle.ur_sqltype.specs.SqltableFaults.{key_unknown}
use Rattle.ur_sqltype.proofs.Exits.{refused-exit}
use Rattle.ur_sqltype.proofs.SqltableValues.{stands_there}
use Rattle.ur_sqltype.proofs.keys.places_of.Goals as goal

pub returns-in_err-place-clause-refused : goal.returns-in_err-place-clause-refused
returns-in_err-place-clause-refused c =
    refused-exit c.from_residual.result c.in_err-place.field-0.0 c.from_residual.ensures.1
    (λ r n. key_unknown c.index-names-i.result (stands_there c.args.names.now c.loop-i.i c.index-names-i.result c.loop-i-test.true c.index-names-i.is) n) c.in_err-place.ensures.refused
