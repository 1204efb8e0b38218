use Rattle.ur_check.proofs.Chains.{one, two, three, four}
use Rattle.ur_check.proofs.ExpShapes.{in-bind, in-seq, in-if, in-lambda, in-case, in-binary, in-remove, in-negative, in-app, in-con-app, in-project, in-record, in-xml, in-let, in-return, in-show, in-not, in-error, in-some, in-set, in-dml, in-query, in-each, in-fold}
use Rattle.ur_check.proofs.exps.+exp.Goals as goal

pub exp-returns-in_ok-exp-in-Bind-2 : goal.exp-returns-in_ok-exp-in-Bind-2
exp-returns-in_ok-exp-in-Bind-2 t c = two _ _ _ c.in_ok-exp-in-Bind.ensures c.in_ok-exp-in-Bind-2.ensures (in-bind c.in-Bind.is c.get.ensures c.get-in-Bind.ensures)

pub exp-returns-in_ok-exp-in-Seq-2 : goal.exp-returns-in_ok-exp-in-Seq-2
exp-returns-in_ok-exp-in-Seq-2 t c = two _ _ _ c.in_ok-exp-in-Seq.ensures c.in_ok-exp-in-Seq-2.ensures (in-seq c.in-Seq.is c.get-in-Seq.ensures c.get-in-Seq-2.ensures)

pub exp-returns-in_ok-exp-in-If-3 : goal.exp-returns-in_ok-exp-in-If-3
exp-returns-in_ok-exp-in-If-3 t c = three _ _ _ _ c.in_ok-exp-in-If.ensures c.in_ok-exp-in-If-2.ensures c.in_ok-exp-in-If-3.ensures (in-if c.in-If.is c.get-in-If.ensures c.get-in-If-2.ensures c.get-in-If-3.ensures)

pub exp-returns-in_ok-exp-in-Lambda : goal.exp-returns-in_ok-exp-in-Lambda
exp-returns-in_ok-exp-in-Lambda t c = two _ _ _ c.in_ok-lambda_params-in-Lambda.ensures c.in_ok-exp-in-Lambda.ensures (in-lambda c.in-Lambda.is c.as_slice.ensures c.get-in-Lambda.ensures)

pub exp-returns-in_ok-branches-in-Case : goal.exp-returns-in_ok-branches-in-Case
exp-returns-in_ok-branches-in-Case t c = two _ _ _ c.in_ok-exp-in-Case.ensures c.in_ok-branches-in-Case.ensures (in-case c.in-Case.is c.get-in-Case.ensures c.as_slice-in-Case.ensures)

pub exp-returns-in_ok-exp-in-Binary-2 : goal.exp-returns-in_ok-exp-in-Binary-2
exp-returns-in_ok-exp-in-Binary-2 t c = two _ _ _ c.in_ok-exp-in-Binary.ensures c.in_ok-exp-in-Binary-2.ensures (in-binary c.in-Binary.is c.get-in-Binary.ensures c.get-in-Binary-2.ensures)

pub exp-returns-in_ok-name-in-Remove : goal.exp-returns-in_ok-name-in-Remove
exp-returns-in_ok-name-in-Remove t c = two _ _ _ c.in_ok-exp-in-Remove.ensures c.in_ok-name-in-Remove.ensures (in-remove c.in-Remove.is c.get-in-Remove.ensures)

pub exp-returns-in_ok-exp-in-Negative : goal.exp-returns-in_ok-exp-in-Negative
exp-returns-in_ok-exp-in-Negative t c = one _ _ c.in_ok-exp-in-Negative.ensures (in-negative c.in-Negative.is c.get-in-Negative.ensures)

pub exp-returns-in_ok-exp-in-App-2 : goal.exp-returns-in_ok-exp-in-App-2
exp-returns-in_ok-exp-in-App-2 t c = two _ _ _ c.in_ok-exp-in-App.ensures c.in_ok-exp-in-App-2.ensures (in-app c.in-App.is c.get-in-App.ensures c.get-in-App-2.ensures)

pub exp-returns-in_ok-con-in-ConApp : goal.exp-returns-in_ok-con-in-ConApp
exp-returns-in_ok-con-in-ConApp t c = two _ _ _ c.in_ok-exp-in-ConApp.ensures c.in_ok-con-in-ConApp.ensures (in-con-app c.in-ConApp.is c.get-in-ConApp.ensures)

pub exp-returns-in_ok-name-in-Project : goal.exp-returns-in_ok-name-in-Project
exp-returns-in_ok-name-in-Project t c = two _ _ _ c.in_ok-exp-in-Project.ensures c.in_ok-name-in-Project.ensures (in-project c.in-Project.is c.get-in-Project.ensures)

pub exp-returns-in_ok-values-in-Record : goal.exp-returns-in_ok-values-in-Record
exp-returns-in_ok-values-in-Record t c = one _ _ c.in_ok-values-in-Record.ensures (in-record c.in-Record.is c.as_slice-in-Record.ensures)

pub exp-returns-in_ok-exps-in-Xml-2 : goal.exp-returns-in_ok-exps-in-Xml-2
exp-returns-in_ok-exps-in-Xml-2 t c = three _ _ _ _ c.in_ok-xml-in-Xml.ensures c.in_ok-exps-in-Xml.ensures c.in_ok-exps-in-Xml-2.ensures (in-xml c.in-Xml.is c.as_slice-in-Xml.ensures c.as_slice-in-Xml-2.ensures)

pub exp-returns-in_ok-exp-in-Let : goal.exp-returns-in_ok-exp-in-Let
exp-returns-in_ok-exp-in-Let t c = two _ _ _ c.in_ok-vals-in-Let.ensures c.in_ok-exp-in-Let.ensures (in-let c.in-Let.is c.as_slice-in-Let.ensures c.get-in-Let.ensures)

pub exp-returns-in_ok-exp-in-Return : goal.exp-returns-in_ok-exp-in-Return
exp-returns-in_ok-exp-in-Return t c = one _ _ c.in_ok-exp-in-Return.ensures (in-return c.in-Return.is c.get-in-Return.ensures)

pub exp-returns-in_ok-exp-in-Show : goal.exp-returns-in_ok-exp-in-Show
exp-returns-in_ok-exp-in-Show t c = one _ _ c.in_ok-exp-in-Show.ensures (in-show c.in-Show.is c.get-in-Show.ensures)

pub exp-returns-in_ok-exp-in-Not : goal.exp-returns-in_ok-exp-in-Not
exp-returns-in_ok-exp-in-Not t c = one _ _ c.in_ok-exp-in-Not.ensures (in-not c.in-Not.is c.get-in-Not.ensures)

pub exp-returns-in_ok-exp-in-Error : goal.exp-returns-in_ok-exp-in-Error
exp-returns-in_ok-exp-in-Error t c = one _ _ c.in_ok-exp-in-Error.ensures (in-error c.in-Error.is c.get-in-Error.ensures)

pub exp-returns-in_ok-exp-in-Some : goal.exp-returns-in_ok-exp-in-Some
exp-returns-in_ok-exp-in-Some t c = one _ _ c.in_ok-exp-in-Some.ensures (in-some c.in-Some.is c.get-in-Some.ensures)

pub exp-returns-in_ok-exp-in-SetCookie : goal.exp-returns-in_ok-exp-in-SetCookie
exp-returns-in_ok-exp-in-SetCookie t c = one _ _ c.in_ok-exp-in-SetCookie.ensures (in-set c.in-SetCookie.is c.get-in-SetCookie.ensures)

pub exp-returns-in_ok-exps-in-Dml : goal.exp-returns-in_ok-exps-in-Dml
exp-returns-in_ok-exps-in-Dml t c = one _ _ c.in_ok-exps-in-Dml.ensures (in-dml c.in-Dml.is c.as_slice-in-Dml.ensures)

pub exp-returns-in_ok-exps-in-Query : goal.exp-returns-in_ok-exps-in-Query
exp-returns-in_ok-exps-in-Query t c = two _ _ _ c.in_ok-query-in-Query.ensures c.in_ok-exps-in-Query.ensures (in-query c.in-Query.is c.as_slice-in-Query.ensures)

pub exp-returns-in_ok-exp-in-QueryX : goal.exp-returns-in_ok-exp-in-QueryX
exp-returns-in_ok-exp-in-QueryX t c = three _ _ _ _ c.in_ok-query-in-QueryX.ensures c.in_ok-exps-in-QueryX.ensures c.in_ok-exp-in-QueryX.ensures (in-each c.in-QueryX.is c.as_slice-in-QueryX.ensures c.get-in-QueryX.ensures)

pub exp-returns-in_ok-con-in-Fold-2 : goal.exp-returns-in_ok-con-in-Fold-2
exp-returns-in_ok-con-in-Fold-2 t c = four _ _ _ _ _ c.in_ok-con-in-Fold.ensures c.in_ok-exp-in-Fold.ensures c.in_ok-exp-in-Fold-2.ensures c.in_ok-con-in-Fold-2.ensures (in-fold c.in-Fold.is c.get-in-Fold.ensures c.get-in-Fold-2.ensures)
