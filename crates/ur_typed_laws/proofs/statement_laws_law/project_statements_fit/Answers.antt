use Rattle.ur_typed_laws.proofs.StatementLawsDeclared.{project_fits}
use Rattle.ur_typed_laws.proofs.statement_laws_law.project_statements_fit.Goals as goal

pub returns : goal.returns
returns c = project_fits c.query_of_fits.ensures c.change_of_fits.ensures
