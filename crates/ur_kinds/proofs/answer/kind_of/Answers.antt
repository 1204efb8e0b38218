use Rattle.ur_syntax.specs.HasKind.{scope_in}
use Rattle.ur_kinds.proofs.Fitting.{refused-along, names-no-kind, kindless}
use Rattle.ur_kinds.proofs.answer.kind_of.Goals as goal

pub returns-in_err-names_known-clause-refused : goal.returns-in_err-names_known-clause-refused
returns-in_err-names_known-clause-refused c =
    names-no-kind (scope_in c.args.env.now) c.args.con.now.form c.from_residual.result c.in_err-names_known.field-0.0 c.from_residual.ensures.1 c.in_err-names_known.ensures

pub returns-clause-refused : goal.returns-clause-refused
returns-clause-refused c = refused-along c.kind_in.result (kindless (scope_in c.args.env.now) c.args.con.now.form c.in_ok-names_known.ensures) c.kind_in.ensures.refused
