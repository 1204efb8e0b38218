use Rattle.ur_serve.proofs.Rounds.{says_refused}
use Rattle.ur_serve.proofs.saying.reply.Goals as goal

pub returns-in-Bad-clause-says : goal.returns-in-Bad-clause-says
returns-in-Bad-clause-says g c =
    rw (c.in-Bad.is) (says_refused (g.A.Responder.answers (g.A.Responder.program c.args.responder.now)) (g.A.Responder.reaches (g.A.Responder.program c.args.responder.now)) g.A.Responder.kept
    (g.A.Responder.state c.args.responder.now c.args.keeper.now) c.in-Bad.status c.args.last c.refused.result c.refused.ensures)
