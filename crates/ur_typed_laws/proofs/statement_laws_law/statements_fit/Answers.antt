use Rattle.ur_typed_laws.proofs.StatementLawsWalked.{walk_fits}
use Rattle.ur_typed_laws.proofs.statement_laws_law.statements_fit.Goals as goal

pub returns : goal.returns
returns c = walk_fits c.query_of_fits.ensures c.change_of_fits.ensures
