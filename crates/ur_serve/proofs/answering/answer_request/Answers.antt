use Rattle.std.proofs.Common.{sym, subst, ap, ◌∙◌}
use Rattle.ur_cache.specs.Entries.{Cached}
use Rattle.ur_machine.specs.Answers.{AreSavedAnswers}
use Rattle.ur_serve.specs.Finishing.{IsAnswered}
use Rattle.ur_serve.proofs.Remembered.{answered_recalled, recalled_keeper, unrecalled_pages}
use Rattle.ur_serve.proofs.answering.answer_request.Goals as goal

pub answer_routed-requires-clause-masks : goal.answer_routed-requires-clause-masks
answer_routed-requires-clause-masks g c = ap (λ (z : Cached). z.masks) c.in-None.ensures.0 ∙ c.requires.masks

pub answer_routed-requires-clause-saved : goal.answer_routed-requires-clause-saved
answer_routed-requires-clause-saved g c = subst (AreSavedAnswers c.args.code.now (g.K.Keeper.saved c.args.keeper.now)) (sym c.in-None.ensures.0) c.requires.saved

pub answer_routed-requires-clause-pages : goal.answer_routed-requires-clause-pages
answer_routed-requires-clause-pages g c =
    unrecalled_pages c.args.code.now c.args.steps c.args.request.now c.args.close c.args.cache.now c.recall.new.cache _ c.args.pages.now.list c.recall.new.pages.list c.in-None.ensures c.requires.pages

pub returns-in-Some-clause-answered : goal.returns-in-Some-clause-answered
returns-in-Some-clause-answered g c =
    answered_recalled c.args.code.now c.args.patterns.now c.args.steps c.args.request.now c.args.close c.args.cache.now c.recall.new.cache _ _ _ _ c.in-Some.reply c.args.pages.now.list c.recall.new.pages.list c.in-Some.ensures
    c.requires.tables c.requires.kept c.requires.at_rest c.requires.saved c.requires.masks c.requires.pages

pub returns-in-Some-clause-cause : goal.returns-in-Some-clause-cause
returns-in-Some-clause-cause g c = λ e. absurd (recalled_keeper c.args.request.now c.args.close c.args.cache.now c.recall.new.cache c.in-Some.reply c.args.pages.now.list c.recall.new.pages.list c.in-Some.ensures e)

pub returns-in-None-clause-answered : goal.returns-in-None-clause-answered
returns-in-None-clause-answered g c =
    subst (λ (z : Cached). IsAnswered c.args.code.now c.args.patterns.now c.args.steps c.args.request.now c.args.close z c.answer_routed.new.cache c.answer_routed.new.pages.list (g.K.Keeper.saved c.args.keeper.now) (g.K.Keeper.saved c.answer_routed.new.keeper) (g.K.Keeper.kept c.answer_routed.new.keeper)
    (g.K.Keeper.under_way c.answer_routed.new.keeper) (g.K.Keeper.reads c.args.keeper.now) (g.K.Keeper.reads c.answer_routed.new.keeper) c.answer_routed.result) c.in-None.ensures.0 c.answer_routed.ensures.answered
