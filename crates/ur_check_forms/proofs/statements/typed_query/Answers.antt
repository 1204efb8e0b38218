use Rattle.ur_check_scopes.proofs.Exits.{refused-exit}
use Rattle.ur_check_forms.proofs.Stating.{query-typed, query-other, query-broken}
use Rattle.ur_check_forms.proofs.statements.typed_query.Goals as goal

pub returns-in_err-are_kinds-clause-refused : goal.returns-in_err-are_kinds-clause-refused
returns-in_err-are_kinds-clause-refused c =
    refused-exit c.from_residual.result c.in_err-are_kinds.field-0.0 c.from_residual.ensures.1
    (λ r h. query-other c.args.around.now c.args.query.now c.args.antiquotes.now c.as_slice-names.result.now c.as_slice-types.result.now r c.as_slice-names.ensures c.as_slice-types.ensures h) c.in_err-are_kinds.ensures.refused

pub returns-in_err-typed-clause-refused : goal.returns-in_err-typed-clause-refused
returns-in_err-typed-clause-refused c =
    refused-exit c.from_residual-in_err-typed.result c.in_err-typed.field-0.0 c.from_residual-in_err-typed.ensures.1
    (λ r h. query-broken c.args.around.now c.args.query.now c.args.antiquotes.now c.as_slice-names.result.now c.as_slice-types.result.now r c.as_slice-types.ensures c.in_ok-are_kinds.ensures.ok h) c.in_err-typed.ensures.refused

pub returns-clause-typed : goal.returns-clause-typed
returns-clause-typed c = query-typed c.args.around.now c.args.query.now c.args.antiquotes.now c.as_slice-types.result.now c.in_ok-typed.typed c.as_slice-types.ensures c.in_ok-typed.ensures.typed
