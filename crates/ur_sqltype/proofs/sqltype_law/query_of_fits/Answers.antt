use Rattle.ur_sqltype.proofs.SqltypeFitting.{query_fits}
use Rattle.ur_sqltype.proofs.sqltype_law.query_of_fits.Goals as goal

pub returns : goal.returns
returns c = query_fits c.kinded_fits.ensures
