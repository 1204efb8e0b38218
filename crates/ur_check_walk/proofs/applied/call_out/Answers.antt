use Rattle.ur_check_scopes.proofs.Exits.{refused-exit}
use Rattle.ur_check_walk.proofs.Applying.{static-there, static-kept}
use Rattle.ur_check_walk.proofs.applied.call_out.Goals as goal

pub returns-clause-fixed : goal.returns-clause-fixed
returns-clause-fixed c = static-there c.args.head.now.params c.as_slice.result.now c.args.done c.as_slice-2.result.now c.as_slice.ensures c.as_slice-2.ensures c.in_ok-are_static.ensures.ok

pub returns-in_err-are_static-clause-refused : goal.returns-in_err-are_static-clause-refused
returns-in_err-are_static-clause-refused c =
    refused-exit c.from_residual.result c.in_err-are_static.field-0.0 c.from_residual.ensures.1
    (λ r h. static-kept c.args.head.now.params c.as_slice.result.now c.args.done c.as_slice-2.result.now r c.as_slice.ensures c.as_slice-2.ensures h) c.in_err-are_static.ensures.refused
