use Rattle.ur_kinds.specs.Acts.{acts}
use Rattle.ur_kinds.proofs.Chains.{one, two, three, four, five}
use Rattle.ur_kinds.proofs.ExpShapes.{in-bind, in-seq, in-if, in-lambda, in-case, in-binary, in-remove, in-negative, in-app, in-con-app, in-project, in-record, in-let, in-return, in-show, in-not, in-error, in-some, in-set, in-dml, in-query, in-each-row, in-fold, in-xml-parts, none-there}
use Rattle.ur_kinds.proofs.Pieces.{nothing}
use Rattle.ur_kinds.proofs.exps.+exp.Goals as goal

pub exp-returns-in_ok-close-in-Bind : goal.exp-returns-in_ok-close-in-Bind
exp-returns-in_ok-close-in-Bind t c = five _ _ _ _ _ _ c.in_ok-exp-in-Bind.ensures c.in_ok-open-in-Bind.ensures c.in_ok-binder-in-Bind.ensures c.in_ok-exp-in-Bind-2.ensures c.in_ok-close-in-Bind.ensures (in-bind _ c.in-Bind.is c.get.ensures c.get-in-Bind.ensures)

pub exp-returns-in_ok-exp-in-Seq-2 : goal.exp-returns-in_ok-exp-in-Seq-2
exp-returns-in_ok-exp-in-Seq-2 t c = two _ _ _ c.in_ok-exp-in-Seq.ensures c.in_ok-exp-in-Seq-2.ensures (in-seq _ c.in-Seq.is c.get-in-Seq.ensures c.get-in-Seq-2.ensures)

pub exp-returns-in_ok-exp-in-If-3 : goal.exp-returns-in_ok-exp-in-If-3
exp-returns-in_ok-exp-in-If-3 t c = three _ _ _ _ c.in_ok-exp-in-If.ensures c.in_ok-exp-in-If-2.ensures c.in_ok-exp-in-If-3.ensures (in-if _ c.in-If.is c.get-in-If.ensures c.get-in-If-2.ensures c.get-in-If-3.ensures)

pub exp-returns-in_ok-close-in-Lambda : goal.exp-returns-in_ok-close-in-Lambda
exp-returns-in_ok-close-in-Lambda t c = four _ _ _ _ _ c.in_ok-open-in-Lambda.ensures c.in_ok-lambda_params-in-Lambda.ensures c.in_ok-exp-in-Lambda.ensures c.in_ok-close-in-Lambda.ensures (in-lambda _ c.in-Lambda.is c.as_slice.ensures c.get-in-Lambda.ensures)

pub exp-returns-in_ok-all_branches-in-Case : goal.exp-returns-in_ok-all_branches-in-Case
exp-returns-in_ok-all_branches-in-Case t c = two _ _ _ c.in_ok-exp-in-Case.ensures c.in_ok-all_branches-in-Case.ensures (in-case _ c.in-Case.is c.get-in-Case.ensures c.as_slice-in-Case.ensures)

pub exp-returns-in_ok-exp-in-Binary-2 : goal.exp-returns-in_ok-exp-in-Binary-2
exp-returns-in_ok-exp-in-Binary-2 t c = two _ _ _ c.in_ok-exp-in-Binary.ensures c.in_ok-exp-in-Binary-2.ensures (in-binary _ c.in-Binary.is c.get-in-Binary.ensures c.get-in-Binary-2.ensures)

pub exp-returns-in_ok-label-in-Remove : goal.exp-returns-in_ok-label-in-Remove
exp-returns-in_ok-label-in-Remove t c = two _ _ _ c.in_ok-exp-in-Remove.ensures c.in_ok-label-in-Remove.ensures (in-remove _ c.in-Remove.is c.get-in-Remove.ensures)

pub exp-returns-in_ok-exp-in-Negative : goal.exp-returns-in_ok-exp-in-Negative
exp-returns-in_ok-exp-in-Negative t c = one _ _ c.in_ok-exp-in-Negative.ensures (in-negative _ c.in-Negative.is c.get-in-Negative.ensures)

pub exp-returns-in_ok-exp-in-App-2 : goal.exp-returns-in_ok-exp-in-App-2
exp-returns-in_ok-exp-in-App-2 t c = two _ _ _ c.in_ok-exp-in-App.ensures c.in_ok-exp-in-App-2.ensures (in-app _ c.in-App.is c.get-in-App.ensures c.get-in-App-2.ensures)

pub exp-returns-in_ok-tell-in-ConApp : goal.exp-returns-in_ok-tell-in-ConApp
exp-returns-in_ok-tell-in-ConApp t c = two _ _ _ c.in_ok-exp-in-ConApp.ensures c.in_ok-tell-in-ConApp.ensures (in-con-app _ c.in-ConApp.is c.get-in-ConApp.ensures c.get-in-ConApp-2.ensures)

pub exp-returns-in_ok-label-in-Project : goal.exp-returns-in_ok-label-in-Project
exp-returns-in_ok-label-in-Project t c = two _ _ _ c.in_ok-exp-in-Project.ensures c.in_ok-label-in-Project.ensures (in-project _ c.in-Project.is c.get-in-Project.ensures)

pub exp-returns-in_ok-record-in-Record : goal.exp-returns-in_ok-record-in-Record
exp-returns-in_ok-record-in-Record t c = one _ _ c.in_ok-record-in-Record.ensures (in-record _ c.in-Record.is c.as_slice-in-Record.ensures)

pub exp-returns-in_ok-close-in-Let : goal.exp-returns-in_ok-close-in-Let
exp-returns-in_ok-close-in-Let t c = four _ _ _ _ _ c.in_ok-open-in-Let.ensures c.in_ok-all_vals-in-Let.ensures c.in_ok-exp-in-Let.ensures c.in_ok-close-in-Let.ensures (in-let _ c.in-Let.is c.as_slice-in-Let.ensures c.get-in-Let.ensures)

pub exp-returns-in_ok-exp-in-Return : goal.exp-returns-in_ok-exp-in-Return
exp-returns-in_ok-exp-in-Return t c = one _ _ c.in_ok-exp-in-Return.ensures (in-return _ c.in-Return.is c.get-in-Return.ensures)

pub exp-returns-in_ok-exp-in-Show : goal.exp-returns-in_ok-exp-in-Show
exp-returns-in_ok-exp-in-Show t c = one _ _ c.in_ok-exp-in-Show.ensures (in-show _ c.in-Show.is c.get-in-Show.ensures)

pub exp-returns-in_ok-exp-in-Not : goal.exp-returns-in_ok-exp-in-Not
exp-returns-in_ok-exp-in-Not t c = one _ _ c.in_ok-exp-in-Not.ensures (in-not _ c.in-Not.is c.get-in-Not.ensures)

pub exp-returns-in_ok-exp-in-Error : goal.exp-returns-in_ok-exp-in-Error
exp-returns-in_ok-exp-in-Error t c = one _ _ c.in_ok-exp-in-Error.ensures (in-error _ c.in-Error.is c.get-in-Error.ensures)

pub exp-returns-in_ok-exp-in-Some : goal.exp-returns-in_ok-exp-in-Some
exp-returns-in_ok-exp-in-Some t c = one _ _ c.in_ok-exp-in-Some.ensures (in-some _ c.in-Some.is c.get-in-Some.ensures)

pub exp-returns-in_ok-exp-in-SetCookie : goal.exp-returns-in_ok-exp-in-SetCookie
exp-returns-in_ok-exp-in-SetCookie t c = one _ _ c.in_ok-exp-in-SetCookie.ensures (in-set _ c.in-SetCookie.is c.get-in-SetCookie.ensures)

pub exp-returns-in_ok-dml-in-Dml : goal.exp-returns-in_ok-dml-in-Dml
exp-returns-in_ok-dml-in-Dml t c = one _ _ c.in_ok-dml-in-Dml.ensures (in-dml _ c.in-Dml.is c.as_slice-in-Dml.ensures)

pub exp-returns-in_ok-asked-in-Query : goal.exp-returns-in_ok-asked-in-Query
exp-returns-in_ok-asked-in-Query t c = one _ _ c.in_ok-asked-in-Query.ensures (in-query _ c.in-Query.is c.as_slice-in-Query.ensures)

pub exp-returns-in_ok-exp-in-QueryX : goal.exp-returns-in_ok-exp-in-QueryX
exp-returns-in_ok-exp-in-QueryX t c = two _ _ _ c.in_ok-asked-in-QueryX.ensures c.in_ok-exp-in-QueryX.ensures (in-each-row _ c.in-QueryX.is c.as_slice-in-QueryX.ensures c.get-in-QueryX.ensures)

pub exp-returns-in_ok-rowed-in-Fold : goal.exp-returns-in_ok-rowed-in-Fold
exp-returns-in_ok-rowed-in-Fold t c = four _ _ _ _ _ c.in_ok-tell-in-Fold.ensures c.in_ok-exp-in-Fold.ensures c.in_ok-exp-in-Fold-2.ensures c.in_ok-rowed-in-Fold.ensures (in-fold _ c.in-Fold.is c.get-in-Fold.ensures c.get-in-Fold-2.ensures)

pub exp-returns-in_ok-xml-in-Xml : goal.exp-returns-in_ok-xml-in-Xml
exp-returns-in_ok-xml-in-Xml t c = one _ _ c.in_ok-xml-in-Xml.ensures (in-xml-parts _ c.in-Xml.is c.as_slice-in-Xml-3.ensures c.as_slice-in-Xml-2.ensures c.as_slice-in-Xml.ensures c.in_ok-told-in-Xml.ensures)

pub numbered-returns-else-n-es : goal.numbered-returns-else-n-es
numbered-returns-else-n-es t c = nothing (acts c.args.out.now) _ (none-there c.args.es.now c.args.n c.if-n-es.false)
