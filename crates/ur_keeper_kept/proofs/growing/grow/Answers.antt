use Rattle.std.proofs.Common.{◌∙◌}
use Rattle.ur_keeper.proofs.Growth.{as-many-tables}
use Rattle.ur_keeper_kept.proofs.GrowingStores.{laid-told, growth-told, can-grow, grows-told}
use Rattle.ur_keeper_kept.proofs.growing.grow.Goals as goal

pub changes_of-requires-clause-shapes : goal.changes_of-requires-clause-shapes
changes_of-requires-clause-shapes g c = as-many-tables c.args.schema.now c.args.kept.now c.requires.extends

pub changes_of-requires-clause-laid : goal.changes_of-requires-clause-laid
changes_of-requires-clause-laid g c =
    laid-told c.args.layout c.args.kept.now _ _ c.in_ok-check_store.ensures.same.same c.in_ok-check_store.ensures.sound

pub save-requires-clause-each : goal.save-requires-clause-each
save-requires-clause-each g c =
    can-grow c.args.layout c.args.schema.now c.args.kept.now _ _ c.as_slice.result.now (c.in_ok-changes.ensures.same.same ∙ c.in_ok-check_store.ensures.same.same) c.requires.extends c.requires.short c.requires.text
    c.in_ok-check_store.ensures.sound
    (growth-told c.args.layout c.args.schema.now c.args.kept.now _ _ c.in_ok-changes.changes c.as_slice.result.now c.in_ok-check_store.ensures.same.same c.as_slice.ensures c.in_ok-changes.ensures.changes)

pub returns-clause-grows : goal.returns-clause-grows
returns-clause-grows g c =
    grows-told c.args.layout c.args.schema.now c.args.kept.now _ _ _ c.as_slice.result.now (c.in_ok-changes.ensures.same.same ∙ c.in_ok-check_store.ensures.same.same) c.requires.extends c.requires.short c.requires.text
    c.in_ok-check_store.ensures.sound
    (growth-told c.args.layout c.args.schema.now c.args.kept.now _ _ c.in_ok-changes.changes c.as_slice.result.now c.in_ok-check_store.ensures.same.same c.as_slice.ensures c.in_ok-changes.ensures.changes)
    c.in_ok-save.ensures.written
