use Rattle.std.proofs.Common.{sym, ◌∙◌, ◌<◌, ◌≤◌, [], subst}
use Rattle.ur_rows.specs.Nodes.{type_nodes, most_nodes}
use Rattle.ur_rows.specs.Put.{instance_type}
use Rattle.ur_check_scopes.proofs.Exits.{refused-exit}
use Rattle.ur_check_scopes.specs.Arguments.{types_at, arrow_nodes}
use Rattle.ur_check_scopes.proofs.Nodes.{whole-small, whole-large, params-large, result-large, whole_type, refused-large}
use Rattle.ur_check_scopes.proofs.arguments.instances_of.Goals as goal

pub returns-then-fits-clause-small : goal.returns-then-fits-clause-small
returns-then-fits-clause-small c =
    subst (λ z. type_nodes (instance_type c.args.args.now (whole_type z c.args.head.now.result)) ≤ most_nodes) c.as_slice.ensures
    (whole-small c.args.args.now c.as_slice.result.now c.args.head.now.result c.in_ok-of.of c.in_ok-of.ensures.form
    (sym (c.fits.ensures (arrow_nodes (types_at c.args.args.now c.as_slice.result.now)) c.in_ok-types.ensures.left) ∙ c.if-fits.true))

pub returns-clause-refused : goal.returns-clause-refused
returns-clause-refused c =
    refused-large c.too_large.result (most_nodes < type_nodes (instance_type c.args.args.now (whole_type c.args.head.now.params c.args.head.now.result))) (c.too_large.ensures [])
    (subst (λ z. most_nodes < type_nodes (instance_type c.args.args.now (whole_type z c.args.head.now.result))) c.as_slice.ensures
    (whole-large c.args.args.now c.as_slice.result.now c.args.head.now.result c.in_ok-of.of c.in_ok-of.ensures.form
    (sym (c.fits.ensures (arrow_nodes (types_at c.args.args.now c.as_slice.result.now)) c.in_ok-types.ensures.left) ∙ c.if-fits.false)))

pub returns-in_err-types-clause-refused : goal.returns-in_err-types-clause-refused
returns-in_err-types-clause-refused c =
    refused-exit c.from_residual.result c.in_err-types.field-0.0 c.from_residual.ensures.1
    (λ r h. (h.0, subst (λ z. most_nodes < type_nodes (instance_type c.args.args.now (whole_type z c.args.head.now.result))) c.as_slice.ensures (params-large c.args.args.now c.as_slice.result.now c.args.head.now.result h.1)))
    c.in_err-types.ensures.refused

pub returns-in_err-of-clause-refused : goal.returns-in_err-of-clause-refused
returns-in_err-of-clause-refused c =
    refused-exit c.from_residual-in_err-of.result c.in_err-of.field-0.0 c.from_residual-in_err-of.ensures.1
    (λ r h. (h.0, result-large c.args.args.now c.args.head.now.params c.args.head.now.result h.1))
    c.in_err-of.ensures.refused
