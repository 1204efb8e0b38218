use Rattle.ur_check_scopes.proofs.Exits.{refused-exit}
use Rattle.ur_check.proofs.Declaring.{enters-some, module-added, module-fault}
use Rattle.ur_check.proofs.modules.module_in.Goals as goal

pub declarations-requires : goal.declarations-requires
declarations-requires c = enters-some c.args.project.now c.enter.new.project c.args.name.now c.in_ok-home.home c.args.bodies.now c.in_ok-enter.ensures c.requires

pub returns-clause-ok : goal.returns-clause-ok
returns-clause-ok c =
    module-added c.args.project.now c.enter.new.project c.declarations.new.project c.args.name.now c.in_ok-home.home c.args.at c.args.written.now c.as_slice.result.now c.args.bodies.now c.declarations.new.bodies c.in_ok-home.ensures c.as_slice.ensures
    c.in_ok-enter.ensures c.in_ok-declarations.ensures.ok

pub returns-in_err-declarations-clause-refused : goal.returns-in_err-declarations-clause-refused
returns-in_err-declarations-clause-refused c =
    refused-exit c.from_residual-in_err-declarations.result c.in_err-declarations.field-0.0 c.from_residual-in_err-declarations.ensures.1
    (λ r h. module-fault c.args.project.now c.enter.new.project c.args.name.now c.in_ok-home.home c.args.at c.args.written.now c.as_slice.result.now c.args.bodies.now r c.in_ok-home.ensures c.as_slice.ensures c.in_ok-enter.ensures h)
    c.in_err-declarations.ensures.refused
