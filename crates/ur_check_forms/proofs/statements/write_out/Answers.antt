use Rattle.ur_check_rules.specs.Views.{sites_in}
use Rattle.ur_check_scopes.proofs.Exits.{refused-exit}
use Rattle.ur_check_forms.proofs.Stating.{write-broken, write-answers}
use Rattle.ur_check_forms.proofs.statements.write_out.Goals as goal

pub returns-in_err-typed-clause-refused : goal.returns-in_err-typed-clause-refused
returns-in_err-typed-clause-refused c =
    refused-exit c.from_residual.result c.in_err-typed.field-0.0 c.from_residual.ensures.1 (λ r h. write-broken c.args.around.now c.args.change.now c.args.antiquotes (sites_in c.args.sites.now) r h) c.in_err-typed.ensures.refused

pub returns-clause-written : goal.returns-clause-written
returns-clause-written c = write-answers c.args.around.now c.args.change.now c.args.at c.args.antiquotes c.in_ok-typed.typed.core c.in_ok-made.made _ _ c.in_ok-typed.ensures.typed c.in_ok-keep_change.ensures c.in_ok-made.ensures
