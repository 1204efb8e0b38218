use Rattle.ur_keeper_kept.proofs.LaidLaws.{inserted-in, laid-inserted, replaced-in, laid-replaced, removed-in, laid-removed, drawn-in, laid-drawn}
use Rattle.ur_keeper_kept.proofs.changes_of_tables.Goals as goal

pub returns-clause-inserts : goal.returns-clause-inserts
returns-clause-inserts c = λ s m i row l laid may. (inserted-in s m i row l laid may, laid-inserted s m i row l laid may)

pub returns-clause-removes : goal.returns-clause-removes
returns-clause-removes c = λ s m i n l laid. (removed-in s m i n l laid, laid-removed s m i n l laid)

pub returns-clause-replaces : goal.returns-clause-replaces
returns-clause-replaces c = λ s m i n row l laid may there. (replaced-in s m i n row l laid may there, laid-replaced s m i n row l laid may)

pub returns-clause-draws : goal.returns-clause-draws
returns-clause-draws c = λ s m q l laid fits low. (drawn-in s m q l laid fits low, laid-drawn s m q l laid fits low)
