use Rattle.std.specs.Prelude.{option_map, Some}
use Rattle.std.proofs.Common.{ap, ◌∙◌}
use Rattle.ur_check_scopes.proofs.Exits.{refused-exit}
use Rattle.ur_typed.specs.Declaring.{with_constructor, variant_out}
use Rattle.ur_check_heads.proofs.datatypes.argument_of.Goals as goal

pub returns-in_err-of-in-Some-clause-refused : goal.returns-in_err-of-in-Some-clause-refused
returns-in_err-of-in-Some-clause-refused c =
    refused-exit c.from_residual.result c.in_err-of-in-Some.field-0.0 c.from_residual.ensures.1
    (λ r h home z s. let t = h home z s in (t.0, (c.in-Some.con, c.in-Some.is, t.1), t.2)) c.in_err-of-in-Some.ensures.refused

pub returns-in_ok-of-in-Some-clause-of : goal.returns-in_ok-of-in-Some-clause-of
returns-in_ok-of-in-Some-clause-of c = λ home z d s.
    ap (λ o. variant_out 65536 d c.args.written.now.name o z) c.in-Some.is ∙ ap (option_map (λ t. with_constructor d c.args.written.now.name (Some t) z)) (c.in_ok-of-in-Some.ensures.of home z s)
