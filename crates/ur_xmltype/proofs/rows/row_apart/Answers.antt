use Rattle.std.proofs.Common.{map, subst}
use Rattle.ur_rows.specs.Apart.{Apart}
use Rattle.ur_disjoint.specs.Tests.{pair}
use Rattle.ur_xmltype.proofs.Meeting.{so_far-next}
use Rattle.ur_xmltype.proofs.rows.row_apart.Goals as goal

pub parts-preserved : goal.parts-preserved
parts-preserved c =
    so_far-next (map pair c.args.assumed.now) c.args.row.now c.parts.left.now c.in-Some.first.now c.in-Some.rest.now c.parts.invariant c.in-Some.ensures.cases.0
    (subst (λ z. Apart (map pair c.args.assumed.now) z c.in-Some.rest.now) c.from_ref.ensures.value (c.prove.ensures.0 c.if-not-prove.false))
