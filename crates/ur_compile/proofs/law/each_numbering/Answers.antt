use Rattle.ur_compile.proofs.Numberings as numberings
use Rattle.ur_compile.proofs.law.each_numbering.Goals as goal

pub returns-clause-fit : goal.returns-clause-fit
returns-clause-fit c = numberings.fits

pub returns-clause-gets : goal.returns-clause-gets
returns-clause-gets c = numberings.gets
