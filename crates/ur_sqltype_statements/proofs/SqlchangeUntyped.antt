-- What breaks a rule is no typed change.
use Rattle.std.proofs.Common.{◌≡◌, ◌∙◌, sym, subst, None}
use Rattle.ur_sqltype.specs.Antiquotes.{found_kind}
use Rattle.ur_sqltype.specs.Change.{change_of}
use Rattle.ur_sqltype.specs.SqltypeFaults.{change_antiquote, change_faulty, FaultyChangeIsNone}
use Rattle.ur_sqltype.proofs.Lists.{some_is, none_is}
use Rattle.ur_sqltype.proofs.Missing.{none_in}
use Rattle.ur_sqltype_statements.specs.SqlchangeFound.{BrokenIsUntyped}

pub untyped : FaultyChangeIsNone → BrokenIsUntyped
untyped none datatypes m tables found u r (change_antiquote a) t i = none_is (sym (none_in found_kind found a.type a.stands a.fault.none) ∙ i.kinds)
untyped none datatypes m tables found u r (change_faulty kinds h f) t i = none_is (sym (subst (λ ks. change_of m tables ks u ≡ None) (some_is (sym h ∙ i.kinds)) (none m tables kinds u r f)) ∙ i.core)
