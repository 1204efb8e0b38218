use Rattle.code_cases.proofs.Readiness.{fewer_may}
use Rattle.code_cases.proofs.serving.serve_next.Goals as goal

pub end_of-requires-clause-ready : goal.end_of-requires-clause-ready
end_of-requires-clause-ready c = fewer_may c.args.server.now c.args.keeper.now 8 c.args.left (c.is_enough.ensures.0 c.if-not-is_enough.false) c.requires
