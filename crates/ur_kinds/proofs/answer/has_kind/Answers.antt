use Rattle.ur_syntax.specs.HasKind.{scope_in}
use Rattle.ur_kinds.proofs.Fitting.{refused-along, names-not-kind, kind-missing}
use Rattle.ur_kinds.proofs.answer.has_kind.Goals as goal

pub returns-in_err-names_known-clause-refused : goal.returns-in_err-names_known-clause-refused
returns-in_err-names_known-clause-refused c =
    names-not-kind (scope_in c.args.env.now) c.args.con.now.form c.args.wanted.now c.from_residual.result c.in_err-names_known.field-0.0 c.from_residual.ensures.1 c.in_err-names_known.ensures

pub returns-clause-refused : goal.returns-clause-refused
returns-clause-refused c = refused-along c.of_kind.result (kind-missing (scope_in c.args.env.now) c.args.con.now.form c.args.wanted.now c.in_ok-names_known.ensures) c.of_kind.ensures.refused
