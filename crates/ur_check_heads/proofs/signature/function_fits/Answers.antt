use Rattle.std.proofs.Common.{sym, ap, ◌∙◌}
use Rattle.std.specs.Prelude.{option_map}
use Rattle.ur_check_scopes.specs.Views.{head_in}
use Rattle.ur_check_scopes.proofs.Exits.{refused-exit, refuses}
use Rattle.ur_typed.specs.Declaring.{datatype_names}
use Rattle.ur_typed.specs.DeclFaults.{BreaksEntry}
use Rattle.ur_check_heads.specs.Entries.{Unfit}
use Rattle.ur_check_heads.proofs.RoutesEntering.{function-there, entry-so, unfit-breaks}
use Rattle.ur_check_heads.proofs.signature.function_fits.Goals as goal

pub returns-in_ok-fits-in-Some-clause-ok : goal.returns-in_ok-fits-in-Some-clause-ok
returns-in_ok-fits-in-Some-clause-ok c = λ home z s e.
    let g = function-there c.args.project.now home z s c.args.number c.in-Some.head.now (sym c.function_at.ensures ∙ ap (option_map (λ x. head_in x.now)) c.in-Some.is) in
    entry-so z c.args.val.now c.args.number g.0 (head_in c.in-Some.head.now) e g.1 g.2 (c.in_ok-fits-in-Some.ensures.small home z s) (c.in_ok-fits-in-Some.ensures.signed home z s)

pub returns-in_err-fits-in-Some-clause-refused : goal.returns-in_err-fits-in-Some-clause-refused
returns-in_err-fits-in-Some-clause-refused c =
    refused-exit c.from_residual.result c.in_err-fits-in-Some.field-0.0 c.from_residual.ensures.1
    (λ r h home z s e.
    let g = function-there c.args.project.now home z s c.args.number c.in-Some.head.now (sym c.function_at.ensures ∙ ap (option_map (λ x. head_in x.now)) c.in-Some.is) in
    refuses (datatype_names z) (Unfit z c.args.val.now.con (head_in c.in-Some.head.now)) (BreaksEntry 65536 z c.args.val.now) (λ f b. unfit-breaks z c.args.val.now c.args.number g.0 (head_in c.in-Some.head.now) f e g.1 g.2 b) r (h home z s))
    c.in_err-fits-in-Some.ensures.refused
