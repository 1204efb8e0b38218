use Rattle.std.proofs.Common.{◌≡◌, true, subst, subst₂}
use Rattle.std.specs.List.{list_all}
use Rattle.ur_typed.specs.Declaring.{con_param_fits}
use Rattle.ur_check_scopes.specs.Views.{env_in, head_in}
use Rattle.ur_check_scopes.proofs.Exits.{refused-exit, refuses}
use Rattle.ur_typed.specs.DeclFaults.{BreaksHeadParams, BreaksHead}
use Rattle.ur_check_heads.specs.Heading.{BreaksCons, BreaksResult, MayBeWritten}
use Rattle.ur_check_heads.proofs.Fitting.{head-right, breaks-cons, breaks-params, breaks-result}
use Rattle.ur_check_heads.proofs.heads.head_fits.Goals as goal

pub returns-in_err-cons_fit-clause-refused : goal.returns-in_err-cons_fit-clause-refused
returns-in_err-cons_fit-clause-refused c =
    let names = c.args.around.now.world.now.datatype_names in
    let env = env_in c.args.around.now.scope.cons in
    refused-exit c.from_residual.result c.in_err-cons_fit.field-0.0 c.from_residual.ensures.1
    (λ r h e. refuses names (BreaksCons env c.as_slice.result.now) (BreaksHead names c.args.function.now (head_in c.args.head.now))
    (λ f b. breaks-cons names env c.args.function.now (head_in c.args.head.now) e f (subst (λ cs. BreaksCons env cs f) c.as_slice.ensures b)) r h)
    c.in_err-cons_fit.ensures.refused

pub returns-in_err-params_fit-clause-refused : goal.returns-in_err-params_fit-clause-refused
returns-in_err-params_fit-clause-refused c =
    let names = c.args.around.now.world.now.datatype_names in
    let env = env_in c.args.around.now.scope.cons in
    refused-exit c.from_residual-in_err-params_fit.result c.in_err-params_fit.field-0.0 c.from_residual-in_err-params_fit.ensures.1
    (λ r h e. refuses names (BreaksHeadParams env c.as_slice-2.result.now c.as_slice-3.result.now) (BreaksHead names c.args.function.now (head_in c.args.head.now))
    (λ f b. breaks-params names env c.args.function.now (head_in c.args.head.now) e f (subst₂ (λ ws ps. BreaksHeadParams env ws ps f) c.as_slice-2.ensures c.as_slice-3.ensures b)) r h)
    c.in_err-params_fit.ensures.refused

pub returns-in_err-result_fits-clause-refused : goal.returns-in_err-result_fits-clause-refused
returns-in_err-result_fits-clause-refused c =
    let names = c.args.around.now.world.now.datatype_names in
    let env = env_in c.args.around.now.scope.cons in
    refused-exit c.from_residual-in_err-result_fits.result c.in_err-result_fits.field-0.0 c.from_residual-in_err-result_fits.ensures.1
    (λ r h e. refuses names (BreaksResult names env c.args.function.now.result c.args.head.now.result) (BreaksHead names c.args.function.now (head_in c.args.head.now)) (breaks-result names env c.args.function.now (head_in c.args.head.now) e) r h)
    c.in_err-result_fits.ensures.refused

pub returns-clause-ok : goal.returns-clause-ok
returns-clause-ok c = λ e known w k i.
    let env = env_in c.args.around.now.scope.cons in
    head-right env 65536 known c.args.function.now (head_in c.args.head.now) w e k i (subst (λ cs. list_all (con_param_fits env) cs ≡ true) c.as_slice.ensures c.in_ok-cons_fit.ensures.ok)
    (subst₂ (MayBeWritten env) c.as_slice-2.ensures c.as_slice-3.ensures c.in_ok-params_fit.ensures.ok) c.in_ok-result_fits.ensures.typed c.in_ok-result_fits.ensures.no_arrow
