use Rattle.std.proofs.Common.{Some, refl, sym, ap, subst, ◌∙◌}
use Rattle.ur_words.specs.declared.reading.Reading.TheVariants as reading
use Rattle.ur_keeper.specs.Keeper.{TellsStore}
use Rattle.ur_top.specs.Ends.{World}
use Rattle.ur_top.specs.Starting.{Held}
use Rattle.ur_top.specs.Obeyed.{Obeyed}
use Rattle.ur_top.specs.declared.serving.EndedServing.{EndedServing}
use Rattle.ur_top.proofs.ObeyingIdle.{IsIdle, held, idle_obeys, unstarted_next, unstarted_ends, unsaid}
use Rattle.ur_top.proofs.ObeyingServed.{has_run, serve_obeys, stopped_obeys, line_serves, line_next, tells_after}
use Rattle.ur_top.proofs.ObeyingSaid.{Says, unstarted_said, unstarted_sink, line_said, line_sink, line_ends, served_said, served_sink}
use Rattle.ur_top.proofs.serving.serve.Goals as goal

pub returns-in-Ok-say_port-clause-obeyed : goal.returns-in-Ok-say_port-clause-obeyed
returns-in-Ok-say_port-clause-obeyed g c =
    let files = g.S.Shelf.told c.args.shelf.now in
    let tells : Type 0 = TellsStore (g.K.Keeper.kept c.args.keeper.now) (g.K.Keeper.saved c.args.keeper.now) in
    let old : World = record { shelf_faults = g.S.Shelf.faults c.args.shelf.now; wire = g.W.Wire.told c.args.wire.now; current = g.W.Wire.is_current c.args.wire.now; wire_faults = g.W.Wire.faults c.args.wire.now; kept = g.K.Keeper.kept c.args.keeper.now; saved = g.K.Keeper.saved c.args.keeper.now; reads = g.K.Keeper.reads c.args.keeper.now; under_way = g.K.Keeper.under_way c.args.keeper.now; keeper_faults = g.K.Keeper.faults c.args.keeper.now } in
    let mid : Held = record { kept = g.K.Keeper.kept c.started.new.keeper; saved = g.K.Keeper.saved c.started.new.keeper; faults = g.K.Keeper.faults c.started.new.keeper } in
    let new : World = record { shelf_faults = g.S.Shelf.faults c.started.new.shelf; wire = g.W.Wire.told c.serve_connections.new.wire; current = g.W.Wire.is_current c.serve_connections.new.wire; wire_faults = g.W.Wire.faults c.serve_connections.new.wire; kept = g.K.Keeper.kept c.serve_connections.new.keeper; saved = g.K.Keeper.saved c.serve_connections.new.keeper; reads = g.K.Keeper.reads c.serve_connections.new.keeper; under_way = g.K.Keeper.under_way c.serve_connections.new.keeper; keeper_faults = g.K.Keeper.faults c.serve_connections.new.keeper } in
    serve_obeys c.one_application.ensures c.served_run_serves.ensures c.links_of_source_lead.ensures files tells c.args.project.now c.args.settings.now old mid (g.K.Keeper.under_way c.started.new.keeper) c.in-Ok.server
    c.in-Ok.ensures.started new c.serve_connections.result.sessions c.args.port c.args.most c.serve_connections.result.end c.requires.some
    (has_run tells c.args.most old mid (g.K.Keeper.reads c.started.new.keeper) c.in-Ok.server new c.serve_connections.result.sessions c.started.ensures.reads
    (tells_after c.in-Ok.server.code.schema old.kept old.saved mid.saved c.in-Ok.ensures.started.server.attached)
    c.serve_connections.ensures.served c.serve_connections.ensures.keeper_faults c.serve_connections.ensures.few c.serve_connections.ensures.requests c.serve_connections.ensures.idle
    c.serve_connections.ensures.kept c.serve_connections.ensures.at_rest c.serve_connections.ensures.never_fall c.started.ensures.never_fall)
    c.serve_connections.ensures.ends c.serve_connections.ensures.wanting

pub returns-in-Ok-say_port-clause-said : goal.returns-in-Ok-say_port-clause-said
returns-in-Ok-say_port-clause-said g c =
    served_said c.args.most (g.W.Wire.told c.args.wire.now) (g.W.Wire.faults c.args.wire.now) (g.W.Wire.faults c.serve_connections.new.wire) (g.W.Wire.is_current c.serve_connections.new.wire)
    c.serve_connections.result.sessions c.args.project.now c.args.port c.args.settings.now c.args.most (g.O.Sink.told c.args.out.now) (g.O.Sink.told c.say_port.new.out) c.serve_connections.result.end
    c.serve_connections.ensures.ends c.in-Ok-say_port.ensures.said

pub returns-in-Ok-say_port-clause-announced : goal.returns-in-Ok-say_port-clause-announced
returns-in-Ok-say_port-clause-announced g c = λ some. c.in-Ok-say_port.ensures.said

pub returns-in-Ok-say_port-clause-sink : goal.returns-in-Ok-say_port-clause-sink
returns-in-Ok-say_port-clause-sink g c = λ is. absurd (
    served_sink c.args.most (g.W.Wire.told c.args.wire.now) (g.W.Wire.faults c.args.wire.now) (g.W.Wire.faults c.serve_connections.new.wire) (g.W.Wire.is_current c.serve_connections.new.wire)
    c.serve_connections.result.sessions c.serve_connections.result.end c.serve_connections.ensures.ends is)

pub returns-in-Err-say_port-clause-obeyed : goal.returns-in-Err-say_port-clause-obeyed
returns-in-Err-say_port-clause-obeyed g c =
    let files = g.S.Shelf.told c.args.shelf.now in
    let tells : Type 0 = TellsStore (g.K.Keeper.kept c.args.keeper.now) (g.K.Keeper.saved c.args.keeper.now) in
    let old : World = record { shelf_faults = g.S.Shelf.faults c.args.shelf.now; wire = g.W.Wire.told c.args.wire.now; current = g.W.Wire.is_current c.args.wire.now; wire_faults = g.W.Wire.faults c.args.wire.now; kept = g.K.Keeper.kept c.args.keeper.now; saved = g.K.Keeper.saved c.args.keeper.now; reads = g.K.Keeper.reads c.args.keeper.now; under_way = g.K.Keeper.under_way c.args.keeper.now; keeper_faults = g.K.Keeper.faults c.args.keeper.now } in
    let mid : Held = record { kept = g.K.Keeper.kept c.started.new.keeper; saved = g.K.Keeper.saved c.started.new.keeper; faults = g.K.Keeper.faults c.started.new.keeper } in
    let new : World = record { shelf_faults = g.S.Shelf.faults c.started.new.shelf; wire = g.W.Wire.told c.args.wire.now; current = g.W.Wire.is_current c.args.wire.now; wire_faults = g.W.Wire.faults c.args.wire.now; kept = g.K.Keeper.kept c.started.new.keeper; saved = g.K.Keeper.saved c.started.new.keeper; reads = g.K.Keeper.reads c.started.new.keeper; under_way = g.K.Keeper.under_way c.started.new.keeper; keeper_faults = g.K.Keeper.faults c.started.new.keeper } in
    let asked = Some (reading.Serve c.args.project.now c.args.port c.args.settings.now c.args.most) in
    subst (λ (r : EndedServing). Obeyed files tells asked old new r.end r.sessions) (sym c.unserved.ensures)
    (stopped_obeys c.one_application.ensures c.served_run_serves.ensures c.links_of_source_lead.ensures files tells asked (record { project = c.args.project.now; settings = c.args.settings.now; most = c.args.most }) refl old mid
    (g.K.Keeper.under_way c.started.new.keeper) c.in-Ok.server c.in-Ok.ensures.started new c.in-Err-say_port.end
    (line_serves c.args.port (g.O.Sink.told c.args.out.now) (g.O.Sink.told c.say_port.new.out) (g.O.Sink.faults c.args.out.now) (g.O.Sink.faults c.say_port.new.out) c.in-Err-say_port.end c.in-Err-say_port.ensures.ends)
    refl refl refl refl c.started.ensures.reads refl
    (line_next c.args.port (g.O.Sink.told c.args.out.now) (g.O.Sink.told c.say_port.new.out) (g.O.Sink.faults c.args.out.now) (g.O.Sink.faults c.say_port.new.out) asked c.in-Err-say_port.end c.in-Err-say_port.ensures.ends)
    c.started.ensures.never_fall.0
    c.started.ensures.never_fall.1 (tells_after c.in-Ok.server.code.schema old.kept old.saved mid.saved c.in-Ok.ensures.started.server.attached)
    (line_ends c.args.project.now c.args.port c.args.settings.now c.args.most (g.O.Sink.told c.args.out.now) (g.O.Sink.told c.say_port.new.out) (g.O.Sink.faults c.args.out.now)
    (g.O.Sink.faults c.say_port.new.out) files old new c.in-Err-say_port.end c.in-Err-say_port.ensures.ends (record { none = refl; same_wire = refl; same_faults = refl; same_current = refl })))

pub returns-in-Err-say_port-clause-said : goal.returns-in-Err-say_port-clause-said
returns-in-Err-say_port-clause-said g c =
    subst (λ (r : EndedServing). Says (g.O.Sink.told c.args.out.now) (g.O.Sink.told c.say_port.new.out) (Some (reading.Serve c.args.project.now c.args.port c.args.settings.now c.args.most)) r.end) (sym c.unserved.ensures)
    (line_said c.args.project.now c.args.port c.args.settings.now c.args.most (g.O.Sink.told c.args.out.now) (g.O.Sink.told c.say_port.new.out) (g.O.Sink.faults c.args.out.now)
    (g.O.Sink.faults c.say_port.new.out) c.in-Err-say_port.end c.in-Err-say_port.ensures.ends)

pub returns-in-Err-say_port-clause-announced : goal.returns-in-Err-say_port-clause-announced
returns-in-Err-say_port-clause-announced g c = λ some. absurd (some (ap (λ (r : EndedServing). r.sessions) c.unserved.ensures))

pub returns-in-Err-say_port-clause-sink : goal.returns-in-Err-say_port-clause-sink
returns-in-Err-say_port-clause-sink g c = λ is.
    line_sink c.args.project.now c.args.port c.args.settings.now c.args.most (g.O.Sink.told c.args.out.now) (g.O.Sink.told c.say_port.new.out) (g.O.Sink.faults c.args.out.now)
    (g.O.Sink.faults c.say_port.new.out) c.in-Err-say_port.end c.in-Err-say_port.ensures.ends (sym (ap (λ (r : EndedServing). r.end) c.unserved.ensures) ∙ is)

pub returns-in-Err-clause-obeyed : goal.returns-in-Err-clause-obeyed
returns-in-Err-clause-obeyed g c =
    let files = g.S.Shelf.told c.args.shelf.now in
    let tells : Type 0 = TellsStore (g.K.Keeper.kept c.args.keeper.now) (g.K.Keeper.saved c.args.keeper.now) in
    let old : World = record { shelf_faults = g.S.Shelf.faults c.args.shelf.now; wire = g.W.Wire.told c.args.wire.now; current = g.W.Wire.is_current c.args.wire.now; wire_faults = g.W.Wire.faults c.args.wire.now; kept = g.K.Keeper.kept c.args.keeper.now; saved = g.K.Keeper.saved c.args.keeper.now; reads = g.K.Keeper.reads c.args.keeper.now; under_way = g.K.Keeper.under_way c.args.keeper.now; keeper_faults = g.K.Keeper.faults c.args.keeper.now } in
    let new : World = record { shelf_faults = g.S.Shelf.faults c.started.new.shelf; wire = g.W.Wire.told c.args.wire.now; current = g.W.Wire.is_current c.args.wire.now; wire_faults = g.W.Wire.faults c.args.wire.now; kept = g.K.Keeper.kept c.started.new.keeper; saved = g.K.Keeper.saved c.started.new.keeper; reads = g.K.Keeper.reads c.started.new.keeper; under_way = g.K.Keeper.under_way c.started.new.keeper; keeper_faults = g.K.Keeper.faults c.started.new.keeper } in
    let asked = Some (reading.Serve c.args.project.now c.args.port c.args.settings.now c.args.most) in
    let idle : IsIdle old new = record { wire = refl; current = refl; wire_faults = refl; kept = c.in-Err.ensures.err.1; saved = c.in-Err.ensures.err.0; reads = c.started.ensures.reads; at_rest = c.in-Err.ensures.err.2; shelf_later = c.started.ensures.never_fall.0; keeper_later = c.started.ensures.never_fall.1 } in
    subst (λ (r : EndedServing). Obeyed files tells asked old new r.end r.sessions) (sym c.unserved-in-Err.ensures)
    (idle_obeys files tells asked old new c.in-Err.end idle (λ none. cc)
    (unstarted_next files c.args.project.now (g.S.Shelf.faults c.args.shelf.now) (g.S.Shelf.faults c.started.new.shelf) (held old) (held new) asked c.in-Err.end c.in-Err.ensures.ends)
    (unstarted_ends files asked c.args.project.now (λ P h. h) tt (λ none. cc) old new c.in-Err.end c.in-Err.ensures.ends idle))

pub returns-in-Err-clause-said : goal.returns-in-Err-clause-said
returns-in-Err-clause-said g c =
    let asked = Some (reading.Serve c.args.project.now c.args.port c.args.settings.now c.args.most) in
    subst (λ (r : EndedServing). Says (g.O.Sink.told c.args.out.now) (g.O.Sink.told c.args.out.now) asked r.end) (sym c.unserved-in-Err.ensures)
    (unsaid (g.O.Sink.told c.args.out.now) asked c.in-Err.end (unstarted_said (g.S.Shelf.told c.args.shelf.now) c.args.project.now (g.S.Shelf.faults c.args.shelf.now) (g.S.Shelf.faults c.started.new.shelf)
    (record { kept = g.K.Keeper.kept c.args.keeper.now; saved = g.K.Keeper.saved c.args.keeper.now; faults = g.K.Keeper.faults c.args.keeper.now })
    (record { kept = g.K.Keeper.kept c.started.new.keeper; saved = g.K.Keeper.saved c.started.new.keeper; faults = g.K.Keeper.faults c.started.new.keeper }) asked c.in-Err.end c.in-Err.ensures.ends))

pub returns-in-Err-clause-announced : goal.returns-in-Err-clause-announced
returns-in-Err-clause-announced g c = λ some. absurd (some (ap (λ (r : EndedServing). r.sessions) c.unserved-in-Err.ensures))

pub returns-in-Err-clause-sink : goal.returns-in-Err-clause-sink
returns-in-Err-clause-sink g c = λ is. absurd (
    unstarted_sink (g.S.Shelf.told c.args.shelf.now) c.args.project.now (g.S.Shelf.faults c.args.shelf.now) (g.S.Shelf.faults c.started.new.shelf)
    (record { kept = g.K.Keeper.kept c.args.keeper.now; saved = g.K.Keeper.saved c.args.keeper.now; faults = g.K.Keeper.faults c.args.keeper.now })
    (record { kept = g.K.Keeper.kept c.started.new.keeper; saved = g.K.Keeper.saved c.started.new.keeper; faults = g.K.Keeper.faults c.started.new.keeper }) c.in-Err.end c.in-Err.ensures.ends (sym (ap (λ (r : EndedServing). r.end) c.unserved-in-Err.ensures) ∙ is))
