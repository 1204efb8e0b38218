use Rattle.std.proofs.Common.{Some, refl, sym, subst}
use Rattle.ur_words.specs.declared.reading.Reading.TheVariants as reading
use Rattle.ur_keeper.specs.Keeper.{TellsStore}
use Rattle.ur_top.specs.Ends.{World}
use Rattle.ur_top.specs.Starting.{Held}
use Rattle.ur_top.specs.Obeyed.{Obeyed}
use Rattle.ur_top.specs.declared.serving.EndedServing.{EndedServing}
use Rattle.ur_top.proofs.ObeyingIdle.{IsIdle, held, idle_obeys, unstarted_next, unstarted_ends}
use Rattle.ur_top.proofs.ObeyingServed.{has_run, replay_obeys, tells_after}
use Rattle.ur_top.proofs.serving.replay.Goals as goal

pub returns-in-Ok-clause-obeyed : goal.returns-in-Ok-clause-obeyed
returns-in-Ok-clause-obeyed g c =
    let files = g.S.Shelf.told c.args.shelf.now in
    let tells : Type 0 = TellsStore (g.K.Keeper.kept c.args.keeper.now) (g.K.Keeper.saved c.args.keeper.now) in
    let old : World = record { shelf_faults = g.S.Shelf.faults c.args.shelf.now; wire = g.W.Wire.told c.args.wire.now; current = g.W.Wire.is_current c.args.wire.now; wire_faults = g.W.Wire.faults c.args.wire.now; kept = g.K.Keeper.kept c.args.keeper.now; saved = g.K.Keeper.saved c.args.keeper.now; reads = g.K.Keeper.reads c.args.keeper.now; under_way = g.K.Keeper.under_way c.args.keeper.now; keeper_faults = g.K.Keeper.faults c.args.keeper.now } in
    let mid : Held = record { kept = g.K.Keeper.kept c.started.new.keeper; saved = g.K.Keeper.saved c.started.new.keeper; faults = g.K.Keeper.faults c.started.new.keeper } in
    let new : World = record { shelf_faults = g.S.Shelf.faults c.started.new.shelf; wire = g.W.Wire.told c.serve_connections.new.wire; current = g.W.Wire.is_current c.serve_connections.new.wire; wire_faults = g.W.Wire.faults c.serve_connections.new.wire; kept = g.K.Keeper.kept c.serve_connections.new.keeper; saved = g.K.Keeper.saved c.serve_connections.new.keeper; reads = g.K.Keeper.reads c.serve_connections.new.keeper; under_way = g.K.Keeper.under_way c.serve_connections.new.keeper; keeper_faults = g.K.Keeper.faults c.serve_connections.new.keeper } in
    replay_obeys c.one_application.ensures c.served_run_serves.ensures c.links_of_source_lead.ensures files tells c.args.project.now c.args.settings.now old mid (g.K.Keeper.under_way c.started.new.keeper) c.in-Ok.server
    c.in-Ok.ensures.started new c.serve_connections.result.sessions c.serve_connections.result.end c.replayed.result.end c.replayed.result.sessions
    (has_run tells 1 old mid (g.K.Keeper.reads c.started.new.keeper) c.in-Ok.server new c.serve_connections.result.sessions c.started.ensures.reads
    (tells_after c.in-Ok.server.code.schema old.kept old.saved mid.saved c.in-Ok.ensures.started.server.attached)
    c.serve_connections.ensures.served c.serve_connections.ensures.keeper_faults c.serve_connections.ensures.few c.serve_connections.ensures.requests c.serve_connections.ensures.idle
    c.serve_connections.ensures.kept c.serve_connections.ensures.at_rest c.serve_connections.ensures.never_fall c.started.ensures.never_fall)
    c.serve_connections.ensures.ends c.replayed.ensures c.serve_connections.ensures.wanting

pub returns-in-Err-clause-obeyed : goal.returns-in-Err-clause-obeyed
returns-in-Err-clause-obeyed g c =
    let files = g.S.Shelf.told c.args.shelf.now in
    let tells : Type 0 = TellsStore (g.K.Keeper.kept c.args.keeper.now) (g.K.Keeper.saved c.args.keeper.now) in
    let old : World = record { shelf_faults = g.S.Shelf.faults c.args.shelf.now; wire = g.W.Wire.told c.args.wire.now; current = g.W.Wire.is_current c.args.wire.now; wire_faults = g.W.Wire.faults c.args.wire.now; kept = g.K.Keeper.kept c.args.keeper.now; saved = g.K.Keeper.saved c.args.keeper.now; reads = g.K.Keeper.reads c.args.keeper.now; under_way = g.K.Keeper.under_way c.args.keeper.now; keeper_faults = g.K.Keeper.faults c.args.keeper.now } in
    let new : World = record { shelf_faults = g.S.Shelf.faults c.started.new.shelf; wire = g.W.Wire.told c.args.wire.now; current = g.W.Wire.is_current c.args.wire.now; wire_faults = g.W.Wire.faults c.args.wire.now; kept = g.K.Keeper.kept c.started.new.keeper; saved = g.K.Keeper.saved c.started.new.keeper; reads = g.K.Keeper.reads c.started.new.keeper; under_way = g.K.Keeper.under_way c.started.new.keeper; keeper_faults = g.K.Keeper.faults c.started.new.keeper } in
    let asked = Some (reading.Replay c.args.project.now c.args.settings.now) in
    let idle : IsIdle old new = record { wire = refl; current = refl; wire_faults = refl; kept = c.in-Err.ensures.err.1; saved = c.in-Err.ensures.err.0; reads = c.started.ensures.reads; at_rest = c.in-Err.ensures.err.2; shelf_later = c.started.ensures.never_fall.0; keeper_later = c.started.ensures.never_fall.1 } in
    subst (λ (r : EndedServing). Obeyed files tells asked old new r.end r.sessions) (sym c.unserved.ensures)
    (idle_obeys files tells asked old new c.in-Err.end idle (λ none. cc)
    (unstarted_next files c.args.project.now (g.S.Shelf.faults c.args.shelf.now) (g.S.Shelf.faults c.started.new.shelf) (held old) (held new) asked c.in-Err.end c.in-Err.ensures.ends)
    (unstarted_ends files asked c.args.project.now (λ P h. h) tt (λ none. cc) old new c.in-Err.end c.in-Err.ensures.ends idle))
