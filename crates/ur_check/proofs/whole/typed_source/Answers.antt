use Rattle.std.proofs.Common.{sym, subst}
use Rattle.ur_check_scopes.proofs.Exits.{refused-exit}
use Rattle.std.specs.Option.{option_copied}
use Rattle.ur_check.specs.Views.{EntersAll}
use Rattle.ur_check.proofs.Ending.{resolves, begun-fault}
use Rattle.ur_check.proofs.whole.typed_source.Goals as goal

pub declared-requires-clause-seen : goal.declared-requires-clause-seen
declared-requires-clause-seen c = (0, _, c.nothing_declared-project.ensures)

pub returns-in_err-found-clause-refused : goal.returns-in_err-found-clause-refused
returns-in_err-found-clause-refused c =
    refused-exit c.from_residual.result c.in_err-found.field-0.0 c.from_residual.ensures.1
    (λ r h. begun-fault c.args.names.now c.args.fields c.args.modules.now (option_copied c.args.signature) c.nothing_declared-project.result c.no_bodies-bodies.result r c.nothing_declared-project.ensures c.no_bodies-bodies.ensures h)
    c.in_err-found.ensures.refused

pub returns-clause-made : goal.returns-clause-made
returns-clause-made c =
    resolves c.args.names.now c.args.fields c.args.modules.now (option_copied c.args.signature) c.nothing_declared-project.result c.declared.new.project c.no_bodies-bodies.result c.declared.new.bodies c.as_slice.result.now c.in_ok-app.app c.nothing_declared-project.ensures
    c.no_bodies-bodies.ensures c.in_ok-found.ensures.added (subst (EntersAll c.declared.new.project (option_copied c.args.signature)) (sym c.as_slice.ensures) c.in_ok-found.ensures.entries) c.in_ok-app.ensures
