use Rattle.ur_check_scopes.proofs.Exits.{refused-exit}
use Rattle.ur_check.proofs.Declaring.{head-fault, bare-declared}
use Rattle.ur_check.proofs.modules.declare_bare.Goals as goal

pub returns-clause-ok : goal.returns-clause-ok
returns-clause-ok c = bare-declared c.args.project.now c.declare.new.project c.args.decl.now.form c.requires c.in_ok-declare.ensures.ok

pub returns-in_err-declare-clause-refused : goal.returns-in_err-declare-clause-refused
returns-in_err-declare-clause-refused c =
    refused-exit c.from_residual.result c.in_err-declare.field-0.0 c.from_residual.ensures.1 (λ r h b. head-fault c.args.project.now b c.args.decl.now.form r h) c.in_err-declare.ensures.refused
