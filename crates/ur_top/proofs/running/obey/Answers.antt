use Rattle.std.proofs.Common.{Option, refl, sym, subst, ◌∙◌, arith}
use Rattle.std.specs.Prelude.{map, string_bytes}
use Rattle.ur_words.specs.Words.{read as reading_of}
use Rattle.ur_words.specs.declared.reading.Reading.{Reading}
use Rattle.ur_keeper.specs.Keeper.{TellsStore}
use Rattle.ur_top.specs.Ends.{World}
use Rattle.ur_top.specs.Obeyed.{Obeyed}
use Rattle.ur_top.specs.declared.reporting.RunEnd.TheVariants as end
use Rattle.ur_top.specs.declared.serving.EndedServing.{EndedServing}
use Rattle.ur_top.proofs.ObeyingIdle.{IsIdle, idle_obeys, no_calls, no_memory}
use Rattle.ur_top.proofs.ObeyingSaid.{Says}
use Rattle.ur_top.proofs.ObeyingWords.{read_serves}
use Rattle.ur_top.proofs.running.obey.Goals as goal

pub act-requires-clause-some : goal.act-requires-clause-some
act-requires-clause-some g c = read_serves (map string_bytes c.args.words.now) c.in-Ok-Some.reading (sym c.in-Ok-Some.ensures ∙ c.in-Ok-Some.field-0-is)

pub returns-in-Ok-Some-clause-said : goal.returns-in-Ok-Some-clause-said
returns-in-Ok-Some-clause-said g c =
    subst (λ (o : Option Reading). Says (g.O.Sink.told c.args.out.now) (g.O.Sink.told c.act.new.out) o c.act.result.end) (sym c.in-Ok-Some.field-0-is ∙ c.in-Ok-Some.ensures) c.act.ensures.said

pub returns-in-Err-clause-obeyed : goal.returns-in-Err-clause-obeyed
returns-in-Err-clause-obeyed g c =
    let files = g.S.Shelf.told c.args.shelf.now in
    let tells : Type 0 = TellsStore (g.K.Keeper.kept c.args.keeper.now) (g.K.Keeper.saved c.args.keeper.now) in
    let asked = reading_of (map string_bytes c.args.words.now) in
    let old : World = record { shelf_faults = g.S.Shelf.faults c.args.shelf.now; wire = g.W.Wire.told c.args.wire.now; current = g.W.Wire.is_current c.args.wire.now; wire_faults = g.W.Wire.faults c.args.wire.now; kept = g.K.Keeper.kept c.args.keeper.now; saved = g.K.Keeper.saved c.args.keeper.now; reads = g.K.Keeper.reads c.args.keeper.now; under_way = g.K.Keeper.under_way c.args.keeper.now; keeper_faults = g.K.Keeper.faults c.args.keeper.now } in
    let idle : IsIdle old old = record { wire = refl; current = refl; wire_faults = refl; kept = refl; saved = refl; reads = refl; at_rest = c.requires; shelf_later = omega arith; keeper_later = omega arith } in
    subst (λ (r : EndedServing). Obeyed files tells asked old old r.end r.sessions) (sym c.unserved-in-Err.ensures)
    (idle_obeys files tells asked old old end.Memory idle (λ none. refl) refl (no_memory files asked old old))

pub returns-in-Ok-None-clause-obeyed : goal.returns-in-Ok-None-clause-obeyed
returns-in-Ok-None-clause-obeyed g c =
    let files = g.S.Shelf.told c.args.shelf.now in
    let tells : Type 0 = TellsStore (g.K.Keeper.kept c.args.keeper.now) (g.K.Keeper.saved c.args.keeper.now) in
    let asked = reading_of (map string_bytes c.args.words.now) in
    let old : World = record { shelf_faults = g.S.Shelf.faults c.args.shelf.now; wire = g.W.Wire.told c.args.wire.now; current = g.W.Wire.is_current c.args.wire.now; wire_faults = g.W.Wire.faults c.args.wire.now; kept = g.K.Keeper.kept c.args.keeper.now; saved = g.K.Keeper.saved c.args.keeper.now; reads = g.K.Keeper.reads c.args.keeper.now; under_way = g.K.Keeper.under_way c.args.keeper.now; keeper_faults = g.K.Keeper.faults c.args.keeper.now } in
    let idle : IsIdle old old = record { wire = refl; current = refl; wire_faults = refl; kept = refl; saved = refl; reads = refl; at_rest = c.requires; shelf_later = omega arith; keeper_later = omega arith } in
    subst (λ (r : EndedServing). Obeyed files tells asked old old r.end r.sessions) (sym c.unserved.ensures)
    (idle_obeys files tells asked old old end.Usage idle (λ none. refl) refl (sym c.in-Ok-None.ensures ∙ c.in-Ok-None.field-0-is, no_calls old old idle))
