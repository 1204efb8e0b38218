use Rattle.std.proofs.Common.{sym, subst}
use Rattle.ur_syntax.specs.HasKind.{IsName, literal}
use Rattle.ur_kinds.specs.Walk.{scope_of}
use Rattle.ur_kinds.proofs.Fitting.{refused-exit, refused-along, name-same, is-name, label-fault, label-other}
use Rattle.ur_kinds.proofs.walk.label.Goals as goal

pub returns-in_err-found-in-Variable-clause-refused : goal.returns-in_err-found-in-Variable-clause-refused
returns-in_err-found-in-Variable-clause-refused c = refused-exit c.from_residual.result c.in_err-found-in-Variable.field-0.0 c.from_residual.ensures.1
    (label-fault c.args.name.now c.in-Variable.x c.in-Variable.is) c.in_err-found-in-Variable.ensures.refused

pub returns-in-Literal-clause-name : goal.returns-in-Literal-clause-name
returns-in-Literal-clause-name c = subst (λ z. IsName (scope_of c.args.names.now) z) (sym c.in-Literal.is) literal

pub returns-in_ok-found-in-Variable-clause-name : goal.returns-in_ok-found-in-Variable-clause-name
returns-in_ok-found-in-Variable-clause-name c = name-same c.same.result
    (is-name c.args.name.now c.in-Variable.x c.in_ok-found-in-Variable.found c.in-Variable.is c.in_ok-found-in-Variable.ensures.kind) c.same.ensures.same

pub returns-in_ok-found-in-Variable-clause-refused : goal.returns-in_ok-found-in-Variable-clause-refused
returns-in_ok-found-in-Variable-clause-refused c = refused-along c.same.result
    (label-other c.args.name.now c.in-Variable.x c.in_ok-found-in-Variable.found c.in-Variable.is c.in_ok-found-in-Variable.ensures.kind) c.same.ensures.refused
