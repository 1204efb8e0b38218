-- A refusal of the trees, and one of the application.
use Rattle.std.proofs.Common.{refl}
use Rattle.ur_compile.proofs.Refusing.{exit_along, stop_refused, untyped_refuses, failed_refuses}
use Rattle.ur_compile.proofs.compiling.of_loaded.Goals as goal

pub returns-in_err-typed-clause-refused : goal.returns-in_err-typed-clause-refused
returns-in_err-typed-clause-refused c =
    exit_along c.from_residual.result c.in_err-typed.field-0.0 c.from_residual.ensures.1
    (λ file r h files project is. untyped_refuses files project file r c.caused_is_none.ensures c.one_project.ensures c.args.loaded.now is h.0 h.1) c.in_err-typed.ensures.refused

pub returns-in-Err-clause-refused : goal.returns-in-Err-clause-refused
returns-in-Err-clause-refused c =
    stop_refused c.args.loaded.now.project c.in-Err.stop c.stopped_in.result _ _ c.stopped_in.ensures c.in-Err.ensures.refused
    (λ r h files project is. failed_refuses files project c.args.loaded.now.project r c.one_application.ensures c.args.loaded.now c.in_ok-typed.typed is c.in_ok-typed.ensures.source h refl)
