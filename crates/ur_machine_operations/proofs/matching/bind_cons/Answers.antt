use Rattle.std.proofs.Common.{refl, sym, ◌∙◌, true≢false}
use Rattle.ur_machine_operations.proofs.Opened.{cons_found, cons_empty, not_cons}
use Rattle.ur_machine_operations.proofs.matching.bind_cons.Goals as goal

pub returns-then-is_empty : goal.returns-then-is_empty
returns-then-is_empty c = (sym c.in-Many.is, cons_empty _ _ c.in-Many.is (c.is_empty.ensures.0 c.if-is_empty.true))

pub first_and_rest-requires : goal.first_and_rest-requires
first_and_rest-requires c = λ none. true≢false (sym (c.is_empty.ensures.1 none) ∙ c.if-is_empty.false)

pub returns-else-is_empty : goal.returns-else-is_empty
returns-else-is_empty c = cons_found _ _ c.first_and_rest.result c.found.result c.in-Many.is c.first_and_rest.ensures c.found.ensures

pub returns-in_default : goal.returns-in_default
returns-in_default c = (refl, not_cons c.args.value c.in_default.not-Many)
