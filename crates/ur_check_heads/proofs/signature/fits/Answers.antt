use Rattle.ur_check_scopes.specs.Views.{head_in}
use Rattle.ur_check_scopes.proofs.Exits.{refused-exit, refuses}
use Rattle.ur_typed.specs.Declaring.{datatype_names}
use Rattle.ur_check_heads.specs.Entries.{OtherType, NoEntry, Unfit, by_type, by_form}
use Rattle.ur_check_heads.proofs.RoutesEntering.{signed-so}
use Rattle.ur_check_heads.proofs.signature.fits.Goals as goal

pub returns-clause-signed : goal.returns-clause-signed
returns-clause-signed c = λ home z s. signed-so z c.args.val.now.con (head_in c.args.head.now) (c.in_ok-is_of_type.ensures.same home z s) c.in_ok-may_enter.ensures.ok

pub returns-in_err-is_of_type-clause-refused : goal.returns-in_err-is_of_type-clause-refused
returns-in_err-is_of_type-clause-refused c =
    refused-exit c.from_residual.result c.in_err-is_of_type.field-0.0 c.from_residual.ensures.1
    (λ r h home z s. refuses (datatype_names z) (OtherType z c.args.val.now.con (head_in c.args.head.now)) (Unfit z c.args.val.now.con (head_in c.args.head.now)) (λ f b. by_type b) r (h home z s)) c.in_err-is_of_type.ensures.refused

pub returns-in_err-may_enter-clause-refused : goal.returns-in_err-may_enter-clause-refused
returns-in_err-may_enter-clause-refused c =
    refused-exit c.from_residual-in_err-may_enter.result c.in_err-may_enter.field-0.0 c.from_residual-in_err-may_enter.ensures.1
    (λ r h home z s. refuses (datatype_names z) (NoEntry (head_in c.args.head.now)) (Unfit z c.args.val.now.con (head_in c.args.head.now)) (λ f b. by_form b) r (h (datatype_names z))) c.in_err-may_enter.ensures.refused
