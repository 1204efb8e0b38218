use Rattle.std.proofs.Common.{All, subst, sym, ◌∙◌}
use Rattle.ur_values.specs.Store.{FitsShape}
use Rattle.ur_sql.specs.Plan.{OnChanges, OfNewRow}
use Rattle.ur_sql.proofs.NewKeys.{on_planned, sound_repeat}
use Rattle.ur_sql.proofs.Outcome.{changes_fit, planned_exactly}
use Rattle.ur_sql.proofs.planning.plan_sound.Goals as goal

pub returns-clause-exact : goal.returns-clause-exact
returns-clause-exact c =
    λ sound. c.outcome.ensures
    ∙ planned_exactly c.args.change.now.action c.args.args.now c.args.shape.now.keys c.args.rows.now c.requires.numbers c.in_ok-changes.changes c.in_ok-repeated.repeated c.len.result c.in_ok-changes.ensures
    (sound_repeat c.args.args.now c.args.shape.now.keys c.args.rows.now c.requires.numbers sound c.args.change.now.action c.in_ok-changes.changes c.in_ok-repeated.repeated c.in_ok-changes.ensures c.in_ok-repeated.ensures)
    c.len.ensures

pub returns-clause-fits : goal.returns-clause-fits
returns-clause-fits c =
    subst (λ p. OnChanges p (All (OfNewRow (FitsShape c.args.shape.now)))) (sym c.outcome.ensures)
    (on_planned c.in_ok-repeated.repeated _ c.in_ok-changes.changes (All (OfNewRow (FitsShape c.args.shape.now)))
    (subst (All (OfNewRow (FitsShape c.args.shape.now))) (sym c.in_ok-changes.ensures)
    (changes_fit c.args.shape.now c.args.change.now.params c.args.change.now.columns c.args.args.now c.requires.args c.requires.shape c.args.change.now.action c.requires.change c.args.rows.now c.requires.rows)))
