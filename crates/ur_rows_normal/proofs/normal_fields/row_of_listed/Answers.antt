use Rattle.std.proofs.Common.{subst}
use Rattle.ur_rows_normal.specs.Listed.{ListedAs}
use Rattle.ur_rows_normal.proofs.Listing.{row-small, row-large}
use Rattle.ur_rows_normal.proofs.normal_fields.row_of_listed.Goals as goal

pub returns-in_ok-merged-in-Small : goal.returns-in_ok-merged-in-Small
returns-in_ok-merged-in-Small c = λ r h. row-small c.in-Small.parts r c.in_ok-merged-in-Small.field-0 c.new.result c.in-Small.left c.new.ensures c.in_ok-merged-in-Small.ensures (subst (λ z. ListedAs z r) c.in-Small.is h)

pub returns-in_ok-outline-in-Large : goal.returns-in_ok-outline-in-Large
returns-in_ok-outline-in-Large c = λ r h. row-large c.in-Large.parts r c.in_ok-row-in-Large.row c.new-in-Large.result c.in_ok-outline-in-Large.field-0 c.new-in-Large.ensures c.in_ok-row-in-Large.ensures c.in_ok-outline-in-Large.ensures (subst (λ z. ListedAs z r) c.in-Large.is h)
