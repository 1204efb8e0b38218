use Rattle.std.specs.Option.{option_copied}
use Rattle.ur_check_scopes.proofs.Exits.{refused-exit}
use Rattle.ur_check.specs.Refused.{by_kind, by_type}
use Rattle.ur_check.proofs.Ending.{checked, is-source, named-cause}
use Rattle.ur_check.proofs.whole.check.Goals as goal

pub returns-in_err-check_names-clause-refused : goal.returns-in_err-check_names-clause-refused
returns-in_err-check_names-clause-refused c =
    named-cause c.args.names.now c.args.modules.now (option_copied c.args.signature) c.in_err-check_names.field-0.0 c.from_residual.result c.from_residual.ensures.1 c.in_err-check_names.ensures.told

pub returns-in_err-check_kinds-clause-refused : goal.returns-in_err-check_kinds-clause-refused
returns-in_err-check_kinds-clause-refused c =
    refused-exit c.from_residual-in_err-check_kinds.result c.in_err-check_kinds.field-0.0 c.from_residual-in_err-check_kinds.ensures.1 (λ r h. by_kind c.in_ok-check_names.ensures.told h) c.in_err-check_kinds.ensures.refused

pub returns-in_err-app-clause-refused : goal.returns-in_err-app-clause-refused
returns-in_err-app-clause-refused c =
    refused-exit c.from_residual-in_err-app.result c.in_err-app.field-0.0 c.from_residual-in_err-app.ensures.1
    (λ r h. by_type {fields = c.in_ok-fields.fields} c.in_ok-check_names.ensures.told c.in_ok-check_kinds.ensures.kinded (record { occur = c.in_ok-fields.ensures.occur; rise = c.in_ok-fields.ensures.rise }) h)
    c.in_err-app.ensures.refused

pub returns-clause-source : goal.returns-clause-source
returns-clause-source c =
    is-source c.args.names.now c.args.modules.now (option_copied c.args.signature) c.in_ok-app.app c.checked_is_typed.ensures c.requires
    (checked c.args.names.now c.in_ok-fields.fields c.args.modules.now (option_copied c.args.signature) c.in_ok-app.app c.in_ok-check_names.ensures.told c.in_ok-check_kinds.ensures.kinded
    (record { occur = c.in_ok-fields.ensures.occur; rise = c.in_ok-fields.ensures.rise }) c.in_ok-app.ensures.made)
