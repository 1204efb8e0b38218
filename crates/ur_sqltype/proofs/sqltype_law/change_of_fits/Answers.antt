use Rattle.ur_sqltype.proofs.FittingChange.{change_fits}
use Rattle.ur_sqltype.proofs.sqltype_law.change_of_fits.Goals as goal

pub returns : goal.returns
returns c = change_fits c.kinded_fits.ensures
