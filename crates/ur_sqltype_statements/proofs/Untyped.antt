-- What breaks a rule is no typed query.
use Rattle.std.proofs.Common.{◌≡◌, ◌∙◌, sym, subst, None}
use Rattle.ur_sqltype.specs.Antiquotes.{found_kind}
use Rattle.ur_sqltype.specs.Query.{query_of}
use Rattle.ur_sqltype.specs.SqltypeFaults.{query_antiquote, query_faulty, FaultyQueryIsNone}
use Rattle.ur_sqltype.proofs.Lists.{some_is, none_is}
use Rattle.ur_sqltype.proofs.Missing.{none_in}
use Rattle.ur_sqltype_statements.specs.Found.{BrokenIsUntyped}

pub untyped : FaultyQueryIsNone → BrokenIsUntyped
untyped none datatypes m tables names found q r (query_antiquote a) t i = none_is (sym (none_in found_kind found a.type a.stands a.fault.none) ∙ i.kinds)
untyped none datatypes m tables names found q r (query_faulty kinds h f) t i = none_is (sym (subst (λ ks. query_of m tables names ks q ≡ None) (some_is (sym h ∙ i.kinds)) (none m tables names kinds q r f)) ∙ i.core)
