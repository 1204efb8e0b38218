use Rattle.std.proofs.Common.{[], Some, refl, sym, subst, arith}
use Rattle.ur_words.specs.declared.reading.Reading.{Reading}
use Rattle.ur_words.specs.declared.reading.Reading.TheVariants as reading
use Rattle.ur_keeper.specs.Keeper.{TellsStore}
use Rattle.ur_top.specs.Ends.{World}
use Rattle.ur_top.specs.Obeyed.{Obeyed}
use Rattle.ur_top.specs.declared.serving.EndedServing.{EndedServing}
use Rattle.ur_top.proofs.ObeyingIdle.{IsIdle, idle_obeys, check_next, sites_next, load_next, checked_ends, sited_ends, loaded_ends, unsaid, quiet}
use Rattle.ur_top.proofs.ObeyingSaid.{Says}
use Rattle.ur_top.proofs.running.act.Goals as goal

pub returns-in-Replay-clause-said : goal.returns-in-Replay-clause-said
returns-in-Replay-clause-said g c =
    let sink = g.O.Sink.told c.args.out.now in
    let asked : Reading = reading.Replay c.in-Replay.project c.in-Replay.settings in
    subst (λ (r : Reading). Says sink sink (Some r) c.replay.result.end) (sym c.in-Replay.is) (unsaid sink (Some asked) c.replay.result.end (quiet (Some asked) c.replay.result.end refl))

pub returns-in-Serve-clause-said : goal.returns-in-Serve-clause-said
returns-in-Serve-clause-said g c =
    subst (λ (r : Reading). Says (g.O.Sink.told c.args.out.now) (g.O.Sink.told c.serve.new.out) (Some r) c.serve.result.end) (sym c.in-Serve.is) c.serve.ensures.said

pub returns-in-Check-clause-obeyed : goal.returns-in-Check-clause-obeyed
returns-in-Check-clause-obeyed g c =
    let files = g.S.Shelf.told c.args.shelf.now in
    let tells : Type 0 = TellsStore (g.K.Keeper.kept c.args.keeper.now) (g.K.Keeper.saved c.args.keeper.now) in
    let asked : Reading = reading.Check c.in-Check.project in
    let old : World = record { shelf_faults = g.S.Shelf.faults c.args.shelf.now; wire = g.W.Wire.told c.args.wire.now; current = g.W.Wire.is_current c.args.wire.now; wire_faults = g.W.Wire.faults c.args.wire.now; kept = g.K.Keeper.kept c.args.keeper.now; saved = g.K.Keeper.saved c.args.keeper.now; reads = g.K.Keeper.reads c.args.keeper.now; under_way = g.K.Keeper.under_way c.args.keeper.now; keeper_faults = g.K.Keeper.faults c.args.keeper.now } in
    let new : World = record old { shelf_faults = g.S.Shelf.faults c.check.new.shelf } in
    let idle : IsIdle old new = record { wire = refl; current = refl; wire_faults = refl; kept = refl; saved = refl; reads = refl; at_rest = c.requires.at_rest; shelf_later = c.check.ensures.never_falls; keeper_later = omega arith } in
    subst (λ (r : EndedServing). Obeyed files tells (Some c.args.reading) old new r.end r.sessions) (sym c.unserved.ensures)
    (subst (λ (r : Reading). Obeyed files tells (Some r) old new c.check.result []) (sym c.in-Check.is)
    (idle_obeys files tells (Some asked) old new c.check.result idle (λ none. refl) (check_next c.in-Check.project c.check.result) (checked_ends files c.in-Check.project old new c.check.result c.check.ensures.ends idle)))

pub returns-in-Sites-clause-obeyed : goal.returns-in-Sites-clause-obeyed
returns-in-Sites-clause-obeyed g c =
    let files = g.S.Shelf.told c.args.shelf.now in
    let tells : Type 0 = TellsStore (g.K.Keeper.kept c.args.keeper.now) (g.K.Keeper.saved c.args.keeper.now) in
    let asked : Reading = reading.Sites c.in-Sites.project in
    let old : World = record { shelf_faults = g.S.Shelf.faults c.args.shelf.now; wire = g.W.Wire.told c.args.wire.now; current = g.W.Wire.is_current c.args.wire.now; wire_faults = g.W.Wire.faults c.args.wire.now; kept = g.K.Keeper.kept c.args.keeper.now; saved = g.K.Keeper.saved c.args.keeper.now; reads = g.K.Keeper.reads c.args.keeper.now; under_way = g.K.Keeper.under_way c.args.keeper.now; keeper_faults = g.K.Keeper.faults c.args.keeper.now } in
    let new : World = record old { shelf_faults = g.S.Shelf.faults c.sites.new.shelf } in
    let idle : IsIdle old new = record { wire = refl; current = refl; wire_faults = refl; kept = refl; saved = refl; reads = refl; at_rest = c.requires.at_rest; shelf_later = c.sites.ensures.never_falls; keeper_later = omega arith } in
    subst (λ (r : EndedServing). Obeyed files tells (Some c.args.reading) old new r.end r.sessions) (sym c.unserved-in-Sites.ensures)
    (subst (λ (r : Reading). Obeyed files tells (Some r) old new c.sites.result []) (sym c.in-Sites.is)
    (idle_obeys files tells (Some asked) old new c.sites.result idle (λ none. refl) (sites_next c.in-Sites.project c.sites.result) (sited_ends files c.in-Sites.project old new c.sites.result c.sites.ensures.ends idle)))

pub returns-in-Load-clause-obeyed : goal.returns-in-Load-clause-obeyed
returns-in-Load-clause-obeyed g c =
    let files = g.S.Shelf.told c.args.shelf.now in
    let tells : Type 0 = TellsStore (g.K.Keeper.kept c.args.keeper.now) (g.K.Keeper.saved c.args.keeper.now) in
    let asked : Reading = reading.Load c.in-Load.seed c.in-Load.count in
    let old : World = record { shelf_faults = g.S.Shelf.faults c.args.shelf.now; wire = g.W.Wire.told c.args.wire.now; current = g.W.Wire.is_current c.args.wire.now; wire_faults = g.W.Wire.faults c.args.wire.now; kept = g.K.Keeper.kept c.args.keeper.now; saved = g.K.Keeper.saved c.args.keeper.now; reads = g.K.Keeper.reads c.args.keeper.now; under_way = g.K.Keeper.under_way c.args.keeper.now; keeper_faults = g.K.Keeper.faults c.args.keeper.now } in
    let idle : IsIdle old old = record { wire = refl; current = refl; wire_faults = refl; kept = refl; saved = refl; reads = refl; at_rest = c.requires.at_rest; shelf_later = omega arith; keeper_later = omega arith } in
    subst (λ (r : EndedServing). Obeyed files tells (Some c.args.reading) old old r.end r.sessions) (sym c.unserved-in-Load.ensures)
    (subst (λ (r : Reading). Obeyed files tells (Some r) old old c.loaded.result []) (sym c.in-Load.is)
    (idle_obeys files tells (Some asked) old old c.loaded.result idle (λ none. refl) (load_next c.in-Load.seed c.in-Load.count c.loaded.result) (loaded_ends files c.in-Load.seed c.in-Load.count old old c.loaded.result c.loaded.ensures idle)))
