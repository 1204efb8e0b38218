use Rattle.ur_typed_laws.proofs.More.{query_more}
use Rattle.ur_typed_laws.proofs.statement_laws_law.query_fits_more.Goals as goal

pub returns : goal.returns
returns c = query_more
