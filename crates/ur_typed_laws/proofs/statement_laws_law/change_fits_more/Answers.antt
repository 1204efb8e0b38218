use Rattle.ur_typed_laws.proofs.More.{change_more}
use Rattle.ur_typed_laws.proofs.statement_laws_law.change_fits_more.Goals as goal

pub returns : goal.returns
returns c = change_more
