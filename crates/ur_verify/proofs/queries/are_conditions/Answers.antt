-- Each condition is a bool.
use Rattle.std.proofs.Common.{refl}
use Rattle.ur_values.specs.declared.schema.ColumnKind.TheVariants as kind
use Rattle.ur_sql.specs.declared.scalar.Scalar.{Scalar}
use Rattle.ur_sql.specs.Typing.{HasKind}
use Rattle.ur_verify.specs.Scope.{scope}
use Rattle.ur_verify.proofs.Loops.{all_step, all_end}
use Rattle.ur_verify.proofs.queries.are_conditions.Goals as goal

pub loop-by-preserved : goal.loop-by-preserved
loop-by-preserved c =
    all_step (λ (e : Scalar). HasKind (scope c.args.params.now c.args.items.now) e kind.Bool) c.args.conditions.now c.loop-by.by-index c.by-item.result c.loop-by-test.true c.by-item.is
    (c.has_kind.ensures.0 c.if-not-has_kind.false) c.loop-by.invariant

pub returns : goal.returns
returns c = ((λ e. all_end (λ (e : Scalar). HasKind (scope c.args.params.now c.args.items.now) e kind.Bool) c.args.conditions.now c.loop-by.by-index c.loop-by-test.false c.loop-by.invariant), (λ a. refl))
