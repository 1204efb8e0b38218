use Rattle.std.proofs.Common.{Some, ap, ◌∙◌}
use Rattle.ur_unfold_static.proofs.Laws.{grows_so}
use Rattle.ur_unfold_pieces.proofs.Keeping.{closes_lambda, ok-along}
use Rattle.ur_unfold_pieces.proofs.lambdas.closed_lambda.Goals as goal

pub returns-in_err-cons-clause-grows : goal.returns-in_err-cons-clause-grows
returns-in_err-cons-clause-grows c = grows_so c.args.closing.now

pub returns-in_err-fixed-clause-grows : goal.returns-in_err-fixed-clause-grows
returns-in_err-fixed-clause-grows c = grows_so c.args.closing.now

pub returns-clause-number : goal.returns-clause-number
returns-clause-number c =
    ok-along c.added.result (λ j at cs fs h. at ∙ ap Some (closes_lambda c.args.closing.now c.add_lambda.new.self c.add_lambda.ensures.grows c.args.scope.now c.args.params.now c.args.body.now c.unit_number.result c.empty_number.result c.in_ok-cons.cons c.in_ok-fixed.fixed c.in_ok-of.of
    c.unit_number.ensures c.empty_number.ensures c.in_ok-cons.ensures c.in_ok-fixed.ensures c.in_ok-of.ensures.number cs fs h)) c.added.ensures.number
