use Rattle.std.proofs.Common.{ℕ, List, ◌≤◌, sym, subst, ◌∙◌}
use Rattle.std.specs.Prelude.{All, IsUtf8}
use Rattle.std.proofs.lemmas.List.Elements.{All-weaker}
use Rattle.ur_machine.specs.Left.{Starts}
use Rattle.ur_http.specs.Texts.{IsTextPair}
use Rattle.ur_machine.specs.Answers.{sites_of}
use Rattle.ur_serve.proofs.Remembered.{pages_after}
use Rattle.ur_serve.proofs.Replying.{ready_at_begin, current_at_begin, answered_call}
use Rattle.ur_serve.proofs.answering.answer_call.Goals as goal

pub start-requires-clause-texts : goal.start-requires-clause-texts
start-requires-clause-texts g c =
    subst (All (λ (pair : List ℕ × List ℕ). IsUtf8 pair.1)) (sym c.as_slice.ensures)
    (All-weaker IsTextPair (λ (pair : List ℕ × List ℕ). IsUtf8 pair.1) (λ pair t. t.1) c.args.request.now.cookies c.requires.text.cookied)

pub handle-turn-requires-clause-ready : goal.handle-turn-requires-clause-ready
handle-turn-requires-clause-ready g c =
    ready_at_begin c.args.code.now.schema c.in-Ok.machine.frames.units _ _ c.begin.ensures.current (subst (λ n. n ≤ 4294967295) c.units.ensures.value c.units.ensures.bound) c.requires.tables c.requires.numbers

pub handle-turn-requires-clause-current : goal.handle-turn-requires-clause-current
handle-turn-requires-clause-current g c =
    current_at_begin c.args.code.now _ _ _ c.args.cache.now c.begin.ensures.within.same_saved c.begin.ensures.current c.requires.saved

pub returns-in-Ok-clause-answered : goal.returns-in-Ok-clause-answered
returns-in-Ok-clause-answered g c =
    answered_call c.args.code.now c.args.patterns.now c.args.steps c.args.request.now c.args.close c.args.call c.requires.routed
    c.in-Ok.machine c.handle-turn.new.machine c.args.cache.now c.handle-turn.new.cache c.finish.new.cache _ _ _ _ _ _ _ _ _ _ _ _ _ c.before_asking-asks.result c.handle-turn.new.asks c.handle-turn.result c.finish.result c.renew.new.pages.list
    (subst (λ pairs. Starts c.args.code.now c.args.call pairs c.args.steps c.in-Ok.machine) c.as_slice.ensures c.in-Ok.ensures.starts) c.in-Ok.ensures.units c.requires.masks c.requires.tables c.begin.ensures.current
    (c.handle-turn.ensures.saved ∙ c.begin.ensures.within.same_saved) c.begin.ensures.reads c.handle-turn.ensures.handled c.handle-turn.ensures.undone (c.handle-turn.ensures.kept ∙ c.begin.ensures.within.same_kept ∙ c.requires.kept) c.handle-turn.ensures.capacity
    c.handle-turn.ensures.ready c.handle-turn.ensures.raised c.finish.ensures.finished c.finish.ensures.answers c.finish.ensures.masks c.finish.ensures.capacity c.finish.ensures.ended c.finish.ensures.same_schema c.finish.ensures.reads
    (pages_after c.args.code.now (sites_of c.args.code.now c.args.patterns.now) c.args.steps c.args.request.now c.args.close c.args.call c.requires.routed
    c.in-Ok.machine c.handle-turn.new.machine c.args.cache.now c.handle-turn.new.cache c.finish.new.cache _ _ _ _ _ _ _ _ c.before_asking-asks.result c.handle-turn.new.asks c.handle-turn.result c.finish.result c.args.pages.now.list c.renew.new.pages.list
    (subst (λ pairs. Starts c.args.code.now c.args.call pairs c.args.steps c.in-Ok.machine) c.as_slice.ensures c.in-Ok.ensures.starts) c.begin.ensures.current (c.handle-turn.ensures.saved ∙ c.begin.ensures.within.same_saved)
    c.before_asking-asks.ensures c.handle-turn.ensures.handled c.handle-turn.ensures.undone c.handle-turn.ensures.untold c.handle-turn.ensures.current_answers c.finish.ensures.finished c.renew.ensures c.requires.pages)
