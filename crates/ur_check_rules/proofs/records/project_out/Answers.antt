use Rattle.std.proofs.Common.{refl, ◌∙◌}
use Rattle.ur_check_scopes.proofs.Exits.{refused-exit}
use Rattle.ur_check_rules.proofs.Recorded.{projected-made, project-told}
use Rattle.ur_check_rules.proofs.Trees.{project-made}
use Rattle.ur_check_rules.proofs.records.project_out.Goals as goal

pub returns-clause-projected : goal.returns-clause-projected
returns-clause-projected c =
    projected-made c.args.label c.args.out (record { of = c.in_ok-of.of; exp = c.in_ok-exp.exp }) c.in_ok-of.of c.in_ok-of.ensures.field refl (c.in_ok-exp.ensures ∙ project-made c.args.out.exp c.args.label)

pub returns-in_err-of-clause-refused : goal.returns-in_err-of-clause-refused
returns-in_err-of-clause-refused c =
    refused-exit c.from_residual.result c.in_err-of.field-0.0 c.from_residual.ensures.1 (λ r h. project-told c.args.around.now.world.now.datatype_names c.args.label c.args.out r h) c.in_err-of.ensures.refused
