use Rattle.ur_typed.specs.DeclFaults.{in_modules}
use Rattle.ur_check_scopes.proofs.Exits.{refused-exit}
use Rattle.std.specs.Option.{option_copied}
use Rattle.ur_check.proofs.Ending.{signed-fault}
use Rattle.ur_check.proofs.whole.declared.Goals as goal

pub returns-in_err-modules_in-clause-refused : goal.returns-in_err-modules_in-clause-refused
returns-in_err-modules_in-clause-refused c =
    refused-exit c.from_residual.result c.in_err-modules_in.field-0.0 c.from_residual.ensures.1 (λ r h z s. in_modules (h z s)) c.in_err-modules_in.ensures.refused

pub returns-in_err-list-clause-refused : goal.returns-in_err-list-clause-refused
returns-in_err-list-clause-refused c =
    refused-exit c.from_residual-in_err-list.result c.in_err-list.field-0.0 c.from_residual-in_err-list.ensures.1
    (λ r h. signed-fault c.args.names.now c.args.modules.now (option_copied c.args.signature) c.args.project.now c.modules_in.new.project c.args.bodies.now c.modules_in.new.bodies r (c.in_ok-modules_in.ensures.ok c.requires.named) h)
    c.in_err-list.ensures.refused
