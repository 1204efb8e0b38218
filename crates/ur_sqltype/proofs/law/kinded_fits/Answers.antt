use Rattle.ur_sqltype.proofs.Fitting.{fits}
use Rattle.ur_sqltype.proofs.law.kinded_fits.Goals as goal

pub returns : goal.returns
returns c = fits
