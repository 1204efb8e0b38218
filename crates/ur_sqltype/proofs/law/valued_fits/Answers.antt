use Rattle.ur_sqltype.proofs.Fitting.{valued_fits}
use Rattle.ur_sqltype.proofs.law.valued_fits.Goals as goal

pub returns : goal.returns
returns c = valued_fits
