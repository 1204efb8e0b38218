use Rattle.std.specs.Prelude.{codes}
use Rattle.std.proofs.Common.{sym, ◌∙◌, subst}
use Rattle.ur_tree.specs.Text.{type_text}
use Rattle.ur_typed_rules.specs.Faults.{not_so}
use Rattle.ur_typed_rules.specs.Arguments.{BreaksPlace}
use Rattle.ur_check_scopes.specs.Views.{env_in, StopIs}
use Rattle.ur_check_scopes.proofs.Exits.{refused-exit, refuses, told}
use Rattle.ur_check_heads.specs.Heading.{BreaksResult, out_of_place, has_arrow}
use Rattle.ur_check_heads.proofs.heads.result_fits.Goals as goal

pub returns-in_err-is_type-clause-refused : goal.returns-in_err-is_type-clause-refused
returns-in_err-is_type-clause-refused c =
    let names = c.args.around.now.world.now.datatype_names in
    let env = env_in c.args.around.now.scope.cons in
    refused-exit c.from_residual.result c.in_err-is_type.field-0.0 c.from_residual.ensures.1
    (refuses names (BreaksPlace env c.args.con.now c.args.of.now) (BreaksResult names env c.args.con.now c.args.of.now) (λ f b. out_of_place b)) c.in_err-is_type.ensures.refused

pub returns-clause-refused : goal.returns-clause-refused
returns-clause-refused c =
    let names = c.args.around.now.world.now.datatype_names in
    told names (BreaksResult names (env_in c.args.around.now.scope.cons) c.args.con.now c.args.of.now) c.type_not_so.result (not_so (type_text names c.args.of.now) (codes "a result without an arrow"))
    (has_arrow (sym c.holds_arrow.ensures ∙ c.if-not-holds_arrow.false))
    (subst (λ ns. StopIs ns (not_so (type_text ns c.args.of.now) (codes "a result without an arrow")) c.type_not_so.result) c.as_slice-names.ensures c.type_not_so.ensures)
