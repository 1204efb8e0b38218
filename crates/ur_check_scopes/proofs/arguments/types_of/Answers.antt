use Rattle.std.proofs.Common.{refl, ◌∙◌, take}
use Rattle.ur_check_scopes.proofs.Exits.{refused-exit}
use Rattle.ur_check_scopes.specs.Arguments.{types_at, arrow_nodes}
use Rattle.ur_check_scopes.proofs.Nodes.{types-step, left-step, types-end, left-end, one-large, at-element, large-at-element}
use Rattle.ur_check_scopes.proofs.arguments.types_of.Goals as goal

pub loop-i-init : goal.loop-i-init
loop-i-init c = (c.new-types.ensures, refl)

pub returns-clause-types : goal.returns-clause-types
returns-clause-types c = types-end c.args.args.now c.args.params.now c.loop-i.i c.loop-i.types c.loop-i-test.false c.loop-i.invariant.0

pub returns-clause-left : goal.returns-clause-left
returns-clause-left c = left-end c.args.args.now c.args.params.now c.loop-i.i c.loop-i.left c.loop-i-test.false c.loop-i.invariant.1

pub loop-i-preserved : goal.loop-i-preserved
loop-i-preserved c = (
  c.in_ok-push.ensures.ok ∙ types-step c.args.args.now c.args.params.now c.loop-i.i c.index-params-i.result c.in_ok-of.of c.loop-i.types c.loop-i-test.true c.index-params-i.is (at-element c.args.args.now c.args.params.now c.loop-i.i c.index-params-i.result c.in_ok-of.of c.index-params-i.is c.in_ok-of.ensures.form) c.loop-i.invariant.0,
  left-step c.args.args.now c.args.params.now c.loop-i.i c.index-params-i.result c.in_ok-of.of c.left_after-left.result c.loop-i-test.true c.index-params-i.is (at-element c.args.args.now c.args.params.now c.loop-i.i c.index-params-i.result c.in_ok-of.of c.index-params-i.is c.in_ok-of.ensures.form) (c.left_after-left.ensures (arrow_nodes (types_at c.args.args.now (take c.loop-i.i c.args.params.now))) c.loop-i.invariant.1),
)

pub returns-in_err-of-clause-refused : goal.returns-in_err-of-clause-refused
returns-in_err-of-clause-refused c =
    refused-exit c.from_residual.result c.in_err-of.field-0.0 c.from_residual.ensures.1
    (λ r h. (h.0, one-large c.args.args.now c.args.params.now c.loop-i.i c.index-params-i.result c.loop-i-test.true c.index-params-i.is (large-at-element c.args.args.now c.args.params.now c.loop-i.i c.index-params-i.result c.index-params-i.is h.1)))
    c.in_err-of.ensures.refused
