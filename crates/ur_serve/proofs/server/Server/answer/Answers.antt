use Rattle.std.proofs.Common.{refl, sym, subst, length, ◌<◌}
use Rattle.ur_code.specs.declared.code.Code.{Code}
use Rattle.ur_serve.specs.Remembering.{AreTouching}
use Rattle.ur_serve.proofs.Replying.{server_saved, server_pages}
use Rattle.ur_serve.proofs.server.Server.answer.Goals as goal

pub answer_request-requires-clause-saved : goal.answer_request-requires-clause-saved
answer_request-requires-clause-saved g c =
    server_saved (record { code = c.self.inside.verified; patterns = c.self.inside.patterns; cache = c.self.inside.cache; steps = c.self.inside.steps; pages = c.self.inside.pages.list }) c.code-code.result.now c.self.inside.cache _
    c.self.invariant.0.typed (rw (← c.self.view_is) at c.requires.ready.answers) c.code-code.ensures.same refl

pub answer_request-requires-clause-few : goal.answer_request-requires-clause-few
answer_request-requires-clause-few g c = subst (λ (z : Code). length z.handlers.routes < 4294967296) (sym c.code-code.ensures.same) c.self.invariant.0.routes.few

pub answer_request-requires-clause-pages : goal.answer_request-requires-clause-pages
answer_request-requires-clause-pages g c =
    server_pages (record { code = c.self.inside.verified; patterns = c.self.inside.patterns; cache = c.self.inside.cache; steps = c.self.inside.steps; pages = c.self.inside.pages.list }) c.code-code.result.now _
    (rw (← c.self.view_is) at c.requires.ready.pages) c.code-code.ensures.same

pub answer_request-requires-clause-touching : goal.answer_request-requires-clause-touching
answer_request-requires-clause-touching g c =
    subst (AreTouching c.code-code.result.now) (sym c.as_slice.ensures)
    (subst (λ (z : Code). AreTouching z c.self.inside.touching) (sym c.code-code.ensures.same) c.self.invariant.1)
