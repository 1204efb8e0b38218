use Rattle.ur_serve.proofs.ServeSessions.{numbers_within, ready_next, same_program, replied}
use Rattle.ur_serve.proofs.responding.ServerResponder.answer.Goals as goal

pub answer-requires-clause-ready : goal.answer-requires-clause-ready
answer-requires-clause-ready g c = c.requires.ready.1.1.ready

pub answer-requires-clause-numbers : goal.answer-requires-clause-numbers
answer-requires-clause-numbers g c =
    numbers_within c.requires.ready.0 c.args.self.now (g.K.Keeper.kept c.args.keeper.now) (g.K.Keeper.under_way c.args.keeper.now) (g.K.Keeper.saved c.args.keeper.now) _ c.requires.ready.1.1

pub returns-clause-reply : goal.returns-clause-reply
returns-clause-reply g c =
    replied c.args.self.now c.answer.new.self c.args.request.now c.args.close (g.K.Keeper.reads c.args.keeper.now) (g.K.Keeper.reads c.answer.new.keeper)
    (g.K.Keeper.saved c.args.keeper.now) (g.K.Keeper.saved c.answer.new.keeper) c.answer.result c.answer.ensures.done c.answer.ensures.unsaved

pub returns-clause-ready : goal.returns-clause-ready
returns-clause-ready g c = λ bound n h.
    ready_next bound c.args.self.now c.answer.new.self (g.K.Keeper.kept c.args.keeper.now) (g.K.Keeper.kept c.answer.new.keeper) (g.K.Keeper.under_way c.args.keeper.now)
    (g.K.Keeper.under_way c.answer.new.keeper) (g.K.Keeper.saved c.args.keeper.now) (g.K.Keeper.saved c.answer.new.keeper) n h c.answer.ensures.ready c.answer.ensures.growth
    c.answer.ensures.same

pub returns-clause-same : goal.returns-clause-same
returns-clause-same g c = same_program c.args.self.now c.answer.new.self c.answer.ensures.same
