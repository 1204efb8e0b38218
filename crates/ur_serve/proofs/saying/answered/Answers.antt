use Rattle.ur_serve.proofs.Rounds.{says_done}
use Rattle.ur_serve.proofs.saying.answered.Goals as goal

pub returns-in-Done-clause-says : goal.returns-in-Done-clause-says
returns-in-Done-clause-says g c =
    says_done (g.A.Responder.answers (g.A.Responder.program c.args.responder.now)) (g.A.Responder.reaches (g.A.Responder.program c.args.responder.now)) g.A.Responder.kept
    (g.A.Responder.state c.args.responder.now c.args.keeper.now) (g.A.Responder.state c.answer.new.self c.answer.new.keeper) c.args.request.now c.args.last c.closes-closes.result c.in-Done.bytes
    c.closes-closes.ensures c.in-Done.ensures.reply
