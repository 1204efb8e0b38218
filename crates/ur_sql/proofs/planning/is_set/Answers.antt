use Rattle.std.proofs.Common.{ℕ, ◌==◌, eq-eqb, ap, sym, ◌∙◌}
use Rattle.std.proofs.lemmas.List.Folds.{list_any_at}
use Rattle.ur_sql.specs.declared.scalar.Scalar.{Scalar}
use Rattle.ur_sql.proofs.planning.is_set.Goals as goal

pub returns-then-set-column : goal.returns-then-set-column
returns-then-set-column c =
    sym (list_any_at (λ (set : ℕ × Scalar). set.0 == c.args.column) c.args.sets.now c.loop-set.set-index c.set-item.result c.loop-set-test.true
    (ap (λ (set : ℕ × Scalar). set.0 == c.args.column) (sym c.set-item.is) ∙ eq-eqb c.set-item.result.0 c.args.column c.if-set-column.true))
