use Rattle.ur_check.proofs.Chains.{one, two}
use Rattle.ur_check.proofs.ConShapes.{in-lambda, in-arrow, in-concat, in-apply, in-dollar, in-row, in-record}
use Rattle.ur_check.proofs.cons.+con.Goals as goal

pub con-returns-in_ok-con-in-Lambda : goal.con-returns-in_ok-con-in-Lambda
con-returns-in_ok-con-in-Lambda t c = one _ _ c.in_ok-con-in-Lambda.ensures (in-lambda c.in-Lambda.is c.get.ensures)

pub con-returns-in_ok-con-in-Arrow-2 : goal.con-returns-in_ok-con-in-Arrow-2
con-returns-in_ok-con-in-Arrow-2 t c = two _ _ _ c.in_ok-con-in-Arrow.ensures c.in_ok-con-in-Arrow-2.ensures (in-arrow c.in-Arrow.is c.get-in-Arrow.ensures c.get-in-Arrow-2.ensures)

pub con-returns-in_ok-con-in-Concat-2 : goal.con-returns-in_ok-con-in-Concat-2
con-returns-in_ok-con-in-Concat-2 t c = two _ _ _ c.in_ok-con-in-Concat.ensures c.in_ok-con-in-Concat-2.ensures (in-concat c.in-Concat.is c.get-in-Concat.ensures c.get-in-Concat-2.ensures)

pub con-returns-in_ok-con-in-App-2 : goal.con-returns-in_ok-con-in-App-2
con-returns-in_ok-con-in-App-2 t c = two _ _ _ c.in_ok-con-in-App.ensures c.in_ok-con-in-App-2.ensures (in-apply c.in-App.is c.get-in-App.ensures c.get-in-App-2.ensures)

pub con-returns-in_ok-row-in-Row : goal.con-returns-in_ok-row-in-Row
con-returns-in_ok-row-in-Row t c = one _ _ c.in_ok-row-in-Row.ensures (in-row c.in-Row.is c.as_slice.ensures)

pub con-returns-in_ok-record-in-Record : goal.con-returns-in_ok-record-in-Record
con-returns-in_ok-record-in-Record t c = one _ _ c.in_ok-record-in-Record.ensures (in-record c.in-Record.is c.as_slice-in-Record.ensures)

pub con-returns-in_ok-con-in-RecordOf : goal.con-returns-in_ok-con-in-RecordOf
con-returns-in_ok-con-in-RecordOf t c = one _ _ c.in_ok-con-in-RecordOf.ensures (in-dollar c.in-RecordOf.is c.get-in-RecordOf.ensures)
