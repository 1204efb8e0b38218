-- What the functions say of queries and changes is what the rules say of them.
use Rattle.ur_sqltype.specs.IsQuery.{StatedIsQuery}
use Rattle.ur_sqltype.specs.Change.{StatedIsChange}
use Rattle.ur_sqltype.proofs.Whole as whole
use Rattle.ur_sqltype.proofs.FittingChange as fitting

pub query_is : StatedIsQuery
query_is = whole.is_query

pub change_is : StatedIsChange
change_is = fitting.is_change
