use Rattle.std.proofs.Common.{length, ap, ◌∙◌}
use Rattle.ur_code.specs.declared.code.Code.{Code}
use Rattle.ur_top.proofs.Coded.{coded, routes_of}
use Rattle.ur_top.proofs.reports.check.Goals as goal

pub returns-in-Ok-clause-ends : goal.returns-in-Ok-clause-ends
returns-in-Ok-clause-ends g c =
    let told = g.S.Shelf.told c.args.shelf.now in
    let word = c.args.project.now in
    let code = c.in-Ok.compiled.verified in
    (routes_of told word code c.len.result (c.len.ensures ∙ ap (λ (x : Code). length x.handlers.routes) c.code.ensures.same) c.in-Ok.ensures.coded, coded told word code c.in-Ok.ensures.coded)
