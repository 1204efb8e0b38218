use Rattle.ur_top.specs.Starting.{Held}
use Rattle.ur_top.proofs.Coded.{if_started, if_unstarted}
use Rattle.ur_top.proofs.serving.started.Goals as goal

pub returns-clause-started : goal.returns-clause-started
returns-clause-started g c =
    let old : Held = record { kept = g.K.Keeper.kept c.args.keeper.now; saved = g.K.Keeper.saved c.args.keeper.now; faults = g.K.Keeper.faults c.args.keeper.now } in
    let new : Held = record { kept = g.K.Keeper.kept c.start.new.keeper; saved = g.K.Keeper.saved c.start.new.keeper; faults = g.K.Keeper.faults c.start.new.keeper } in
    if_started (g.S.Shelf.told c.args.shelf.now) c.args.project.now c.in_ok-compiled.compiled.verified c.in_ok-compiled.compiled.patterns c.args.settings.now old new (g.K.Keeper.under_way c.start.new.keeper)
    c.start.result c.in_ok-compiled.ensures.coded c.in_ok-compiled.ensures.patterns.exact c.start.ensures.started

pub returns-clause-ends : goal.returns-clause-ends
returns-clause-ends g c =
    let old : Held = record { kept = g.K.Keeper.kept c.args.keeper.now; saved = g.K.Keeper.saved c.args.keeper.now; faults = g.K.Keeper.faults c.args.keeper.now } in
    let new : Held = record { kept = g.K.Keeper.kept c.start.new.keeper; saved = g.K.Keeper.saved c.start.new.keeper; faults = g.K.Keeper.faults c.start.new.keeper } in
    if_unstarted (g.S.Shelf.told c.args.shelf.now) c.args.project.now (g.S.Shelf.faults c.args.shelf.now) (g.S.Shelf.faults c.compiled.new.shelf) c.in_ok-compiled.compiled.verified old new c.start.result
    c.in_ok-compiled.ensures.coded c.start.ensures.ends
