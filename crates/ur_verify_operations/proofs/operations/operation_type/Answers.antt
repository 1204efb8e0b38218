-- The operation of each arm.
use Rattle.ur_code.specs.Fits.{signature}
use Rattle.ur_verify_operations.proofs.Declared.{of_operation}
use Rattle.ur_verify_operations.proofs.operations.operation_type.Goals as goal

pub returns-in-Add-clause-fits : goal.returns-in-Add-clause-fits
returns-in-Add-clause-fits c = of_operation (signature c.args.code.now) _ _ c.args.ts.now c.ints.result c.in-Add.is c.ints.ensures.fits

pub returns-in-Sub-clause-fits : goal.returns-in-Sub-clause-fits
returns-in-Sub-clause-fits c = of_operation (signature c.args.code.now) _ _ c.args.ts.now c.ints-in-Sub.result c.in-Sub.is c.ints-in-Sub.ensures.fits

pub returns-in-Mul-clause-fits : goal.returns-in-Mul-clause-fits
returns-in-Mul-clause-fits c = of_operation (signature c.args.code.now) _ _ c.args.ts.now c.ints-in-Mul.result c.in-Mul.is c.ints-in-Mul.ensures.fits

pub returns-in-Div-clause-fits : goal.returns-in-Div-clause-fits
returns-in-Div-clause-fits c = of_operation (signature c.args.code.now) _ _ c.args.ts.now c.ints-in-Div.result c.in-Div.is c.ints-in-Div.ensures.fits

pub returns-in-Rem-clause-fits : goal.returns-in-Rem-clause-fits
returns-in-Rem-clause-fits c = of_operation (signature c.args.code.now) _ _ c.args.ts.now c.ints-in-Rem.result c.in-Rem.is c.ints-in-Rem.ensures.fits

pub returns-in-Neg-clause-fits : goal.returns-in-Neg-clause-fits
returns-in-Neg-clause-fits c = of_operation (signature c.args.code.now) _ _ c.args.ts.now c.exactly.result c.in-Neg.is c.exactly.ensures.fits

pub returns-in-Append-clause-fits : goal.returns-in-Append-clause-fits
returns-in-Append-clause-fits c = of_operation (signature c.args.code.now) _ _ c.args.ts.now c.exactly-in-Append.result c.in-Append.is c.exactly-in-Append.ensures.fits

pub returns-in-Not-clause-fits : goal.returns-in-Not-clause-fits
returns-in-Not-clause-fits c = of_operation (signature c.args.code.now) _ _ c.args.ts.now c.exactly-in-Not.result c.in-Not.is c.exactly-in-Not.ensures.fits

pub returns-in-Equal-clause-fits : goal.returns-in-Equal-clause-fits
returns-in-Equal-clause-fits c = of_operation (signature c.args.code.now) _ _ c.args.ts.now c.equality.result c.in-Equal.is c.equality.ensures.fits

pub returns-in-Unequal-clause-fits : goal.returns-in-Unequal-clause-fits
returns-in-Unequal-clause-fits c = of_operation (signature c.args.code.now) _ _ c.args.ts.now c.equality-in-Unequal.result c.in-Unequal.is c.equality-in-Unequal.ensures.fits

pub returns-in-Less-clause-fits : goal.returns-in-Less-clause-fits
returns-in-Less-clause-fits c = of_operation (signature c.args.code.now) _ _ c.args.ts.now c.order.result c.in-Less.is c.order.ensures.fits

pub returns-in-LessEqual-clause-fits : goal.returns-in-LessEqual-clause-fits
returns-in-LessEqual-clause-fits c = of_operation (signature c.args.code.now) _ _ c.args.ts.now c.order-in-LessEqual.result c.in-LessEqual.is c.order-in-LessEqual.ensures.fits

pub returns-in-Greater-clause-fits : goal.returns-in-Greater-clause-fits
returns-in-Greater-clause-fits c = of_operation (signature c.args.code.now) _ _ c.args.ts.now c.order-in-Greater.result c.in-Greater.is c.order-in-Greater.ensures.fits

pub returns-in-GreaterEqual-clause-fits : goal.returns-in-GreaterEqual-clause-fits
returns-in-GreaterEqual-clause-fits c = of_operation (signature c.args.code.now) _ _ c.args.ts.now c.order-in-GreaterEqual.result c.in-GreaterEqual.is c.order-in-GreaterEqual.ensures.fits

pub returns-in-Show-clause-fits : goal.returns-in-Show-clause-fits
returns-in-Show-clause-fits c = of_operation (signature c.args.code.now) _ _ c.args.ts.now c.shows.result c.in-Show.is c.shows.ensures.fits

pub returns-in-Record-clause-fits : goal.returns-in-Record-clause-fits
returns-in-Record-clause-fits c = of_operation (signature c.args.code.now) _ _ c.args.ts.now c.record.result c.in-Record.is c.record.ensures.fits

pub returns-in-Project-clause-fits : goal.returns-in-Project-clause-fits
returns-in-Project-clause-fits c = of_operation (signature c.args.code.now) _ _ c.args.ts.now c.projection.result c.in-Project.is c.projection.ensures.fits

pub returns-in-Join-clause-fits : goal.returns-in-Join-clause-fits
returns-in-Join-clause-fits c = of_operation (signature c.args.code.now) _ _ c.args.ts.now c.join.result c.in-Join.is c.join.ensures.fits

pub returns-in-Cut-clause-fits : goal.returns-in-Cut-clause-fits
returns-in-Cut-clause-fits c = of_operation (signature c.args.code.now) _ _ c.args.ts.now c.cut.result c.in-Cut.is c.cut.ensures.fits

pub returns-in-Absent-clause-fits : goal.returns-in-Absent-clause-fits
returns-in-Absent-clause-fits c = of_operation (signature c.args.code.now) _ _ c.args.ts.now c.absent.result c.in-Absent.is c.absent.ensures.fits

pub returns-in-Present-clause-fits : goal.returns-in-Present-clause-fits
returns-in-Present-clause-fits c = of_operation (signature c.args.code.now) _ _ c.args.ts.now c.present.result c.in-Present.is c.present.ensures.fits

pub returns-in-Empty-clause-fits : goal.returns-in-Empty-clause-fits
returns-in-Empty-clause-fits c = of_operation (signature c.args.code.now) _ _ c.args.ts.now c.empty.result c.in-Empty.is c.empty.ensures.fits

pub returns-in-Cons-clause-fits : goal.returns-in-Cons-clause-fits
returns-in-Cons-clause-fits c = of_operation (signature c.args.code.now) _ _ c.args.ts.now c.cons.result c.in-Cons.is c.cons.ensures.fits

pub returns-in-Tagged-clause-fits : goal.returns-in-Tagged-clause-fits
returns-in-Tagged-clause-fits c = of_operation (signature c.args.code.now) _ _ c.args.ts.now c.tagged.result c.in-Tagged.is c.tagged.ensures.fits

pub returns-in-Fail-clause-fits : goal.returns-in-Fail-clause-fits
returns-in-Fail-clause-fits c = of_operation (signature c.args.code.now) _ _ c.args.ts.now c.fail.result c.in-Fail.is c.fail.ensures.fits

pub returns-in-Markup-clause-fits : goal.returns-in-Markup-clause-fits
returns-in-Markup-clause-fits c = of_operation (signature c.args.code.now) _ _ c.args.ts.now c.literal.result c.in-Markup.is c.literal.ensures.fits

pub returns-in-Text-clause-fits : goal.returns-in-Text-clause-fits
returns-in-Text-clause-fits c = of_operation (signature c.args.code.now) _ _ c.args.ts.now c.text.result c.in-Text.is c.text.ensures.fits

pub returns-in-Shown-clause-fits : goal.returns-in-Shown-clause-fits
returns-in-Shown-clause-fits c = of_operation (signature c.args.code.now) _ _ c.args.ts.now c.shows-in-Shown.result c.in-Shown.is c.shows-in-Shown.ensures.fits

pub returns-in-Element-clause-fits : goal.returns-in-Element-clause-fits
returns-in-Element-clause-fits c = of_operation (signature c.args.code.now) _ _ c.args.ts.now c.element.result c.in-Element.is c.element.ensures.fits

pub returns-in-Link-clause-fits : goal.returns-in-Link-clause-fits
returns-in-Link-clause-fits c = of_operation (signature c.args.code.now) _ _ c.args.ts.now c.link.result c.in-Link.is c.link.ensures.fits

pub returns-in-Input-clause-fits : goal.returns-in-Input-clause-fits
returns-in-Input-clause-fits c = of_operation (signature c.args.code.now) _ _ c.args.ts.now c.input.result c.in-Input.is c.input.ensures.fits

pub returns-in-Submit-clause-fits : goal.returns-in-Submit-clause-fits
returns-in-Submit-clause-fits c = of_operation (signature c.args.code.now) _ _ c.args.ts.now c.submit.result c.in-Submit.is c.submit.ensures.fits

pub returns-in-Ask-clause-fits : goal.returns-in-Ask-clause-fits
returns-in-Ask-clause-fits c = of_operation (signature c.args.code.now) _ _ c.args.ts.now c.ask.result c.in-Ask.is c.ask.ensures.fits

pub returns-in-Write-clause-fits : goal.returns-in-Write-clause-fits
returns-in-Write-clause-fits c = of_operation (signature c.args.code.now) _ _ c.args.ts.now c.write.result c.in-Write.is c.write.ensures.fits

pub returns-in-Next-clause-fits : goal.returns-in-Next-clause-fits
returns-in-Next-clause-fits c = of_operation (signature c.args.code.now) _ _ c.args.ts.now c.next.result c.in-Next.is c.next.ensures.fits

pub returns-in-GetCookie-clause-fits : goal.returns-in-GetCookie-clause-fits
returns-in-GetCookie-clause-fits c = of_operation (signature c.args.code.now) _ _ c.args.ts.now c.get_cookie.result c.in-GetCookie.is c.get_cookie.ensures.fits

pub returns-in-SetCookie-clause-fits : goal.returns-in-SetCookie-clause-fits
returns-in-SetCookie-clause-fits c = of_operation (signature c.args.code.now) _ _ c.args.ts.now c.set_cookie.result c.in-SetCookie.is c.set_cookie.ensures.fits
