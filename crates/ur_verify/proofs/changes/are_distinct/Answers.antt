-- Columns that are all different.
use Rattle.std.proofs.Common.{ℕ, refl}
use Rattle.ur_sql.specs.declared.scalar.Scalar.{Scalar}
use Rattle.ur_verify.proofs.Loops.{distinct_step, not_distinct, distinct_end}
use Rattle.ur_verify.proofs.changes.are_distinct.Goals as goal

abbrev column : ℕ × Scalar → ℕ
column set = set.0

pub loop-set-preserved : goal.loop-set-preserved
loop-set-preserved c =
    distinct_step column c.args.sets.now c.loop-set.left.now c.in-Some.rest.now c.in-Some.set.now _ c.in-Some.ensures.cases.0 c.is_set.ensures c.if-is_set.false c.loop-set.invariant

pub returns-then-is_set : goal.returns-then-is_set
returns-then-is_set c = (
  (λ e. absurd (cc)),
  (λ d. not_distinct column c.args.sets.now c.loop-set.left.now c.in-Some.rest.now c.in-Some.set.now _ c.in-Some.ensures.cases.0 c.is_set.ensures c.if-is_set.true
      c.loop-set.invariant d),
)

pub returns : goal.returns
returns c = ((λ e. distinct_end column c.args.sets.now c.loop-set.left.now c.in_default.ensures.cases c.loop-set.invariant), (λ d. refl))
