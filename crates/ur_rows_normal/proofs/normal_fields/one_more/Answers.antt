use Rattle.std.proofs.Common.{subst}
use Rattle.ur_rows_reduce.specs.Held.{TypeIs}
use Rattle.ur_rows_normal.specs.Listed.{ListedAs}
use Rattle.ur_rows_normal.proofs.Listing.{listed-fits, listed-over, listed-none, listed-large}
use Rattle.ur_rows_normal.proofs.normal_fields.one_more.Goals as goal

pub returns-in_ok-with_field-in-Some-left_after : goal.returns-in_ok-with_field-in-Some-left_after
returns-in_ok-with_field-in-Some-left_after c = λ r u h k. listed-fits c.in-Small.parts r c.in_ok-with_field-in-Some-left_after.field-0 c.in-Small.left c.in-Some-left_after.rest c.in_ok-type_height-in-Some.field-0 c.args.label c.in-Some.t u c.in-Some-left_after.ensures c.in_ok-with_field-in-Some-left_after.ensures c.in_ok-type_height-in-Some.ensures (subst (λ z. ListedAs z r) c.in-Small.is h) (subst (λ z. TypeIs z u) c.in-Some.is k)

pub returns-in_ok-with_field-in-None-left_after : goal.returns-in_ok-with_field-in-None-left_after
returns-in_ok-with_field-in-None-left_after c = λ r u h k. listed-over c.in-Small.parts r c.in_ok-with_field-in-None-left_after.field-0 c.in-Small.left c.args.label c.in-Some.t _ u c.in-None-left_after.ensures c.in_ok-with_field-in-None-left_after.ensures (subst (λ z. ListedAs z r) c.in-Small.is h) (subst (λ z. TypeIs z u) c.in-Some.is k)

pub returns-in_ok-with_field-in-None : goal.returns-in_ok-with_field-in-None
returns-in_ok-with_field-in-None c = λ r u h k. listed-none c.in-Small.parts r c.in_ok-with_field-in-None.field-0 c.in-Small.left c.args.label _ u c.in_ok-with_field-in-None.ensures (subst (λ z. ListedAs z r) c.in-Small.is h) (subst (λ z. TypeIs z u) c.in-None.is k)

pub returns-in_ok-with_field-in-Large : goal.returns-in_ok-with_field-in-Large
returns-in_ok-with_field-in-Large c = λ r u h k. listed-large c.in-Large.parts r c.in_ok-with_field-in-Large.field-0 c.args.label _ u c.in_ok-with_field-in-Large.ensures (subst (λ z. ListedAs z r) c.in-Large.is h)
