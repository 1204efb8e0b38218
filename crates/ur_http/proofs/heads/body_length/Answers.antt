use Rattle.std.proofs.Common.{◌∙◌, ap, Some, lit≤}
use Rattle.ur_http.specs.Requests.{length_fault}
use Rattle.ur_http.proofs.Faults.{length_missing, length_number, length_other, length_several, small_number, great_number}
use Rattle.ur_http.proofs.heads.body_length.Goals as goal

pub returns-in-Missing : goal.returns-in-Missing
returns-in-Missing c = (length_missing _ c.in-Missing.ensures, lit≤ tt)

pub returns-in-Some : goal.returns-in-Some
returns-in-Some c = (
  length_number _ _ c.in-One.ensures c.in-Some.ensures.0 ∙ ap Some (small_number _ _ c.in-Some.ensures.1 c.if-length-le-GREATEST_BODY.true),
  c.if-length-le-GREATEST_BODY.true,
)

pub returns-in-Some-2 : goal.returns-in-Some-2
returns-in-Some-2 c = ap length_fault (length_number _ _ c.in-One.ensures c.in-Some.ensures.0) ∙ great_number _ _ c.in-Some.ensures.1 c.if-length-le-GREATEST_BODY.false

pub returns-in-None : goal.returns-in-None
returns-in-None c = ap length_fault (length_other _ _ c.in-One.ensures c.in-None.ensures)

pub returns-in-Several : goal.returns-in-Several
returns-in-Several c = let (a, b, more, is) = c.in-Several.ensures in ap length_fault (length_several _ a b more is)
