use Rattle.std.proofs.Common.{◌≡◌, ◌∙◌, subst, ap, map, Some}
use Rattle.ur_typed_rules.specs.Names.{Names}
use Rattle.ur_check_scopes.proofs.Exits.{refused-exit}
use Rattle.ur_check_scopes.specs.Views.{local_in, param_in}
use Rattle.ur_typed.specs.Declaring.{all_params_out}
use Rattle.ur_typed.specs.DeclFaults.{HasLargeParam, large_param, large_result}
use Rattle.ur_check_heads.specs.Views.{names_after}
use Rattle.ur_check_heads.proofs.Written.{head-behind}
use Rattle.ur_check_heads.proofs.heads.head_behind.Goals as goal

pub returns-in_err-locals-clause-refused : goal.returns-in_err-locals-clause-refused
returns-in_err-locals-clause-refused c =
    refused-exit c.from_residual.result c.in_err-locals.field-0.0 c.from_residual.ensures.1
    (λ r h. (h.0, λ known texts covers out. large_param out (subst (HasLargeParam 65536 (names_after c.args.function.now.con_params known)) c.as_slice.ensures (h.1 (names_after c.args.function.now.con_params known) (c.over-inner.ensures (names_after c.args.function.now.con_params known).cons covers)))))
    c.in_err-locals.ensures.refused

pub returns-in_err-result-clause-refused : goal.returns-in_err-result-clause-refused
returns-in_err-result-clause-refused c =
    refused-exit c.from_residual-in_err-result.result c.in_err-result.field-0.0 c.from_residual-in_err-result.ensures.1
    (λ r h. (h.0, λ known texts covers out. large_result out (h.1 (names_after c.args.function.now.con_params known).cons (c.over-inner.ensures (names_after c.args.function.now.con_params known).cons covers))))
    c.in_err-result.ensures.refused

pub returns-clause-head : goal.returns-clause-head
returns-clause-head c = λ known covers out.
    let after : Names = names_after c.args.function.now.con_params known in
    let reads = c.over-inner.ensures after.cons covers in
    head-behind known after c.args.function.now c.args.parameters.cons c.in_ok-locals.locals c.in_ok-params.params c.in_ok-result.result out (subst (λ ps. all_params_out 65536 after ps ≡ Some (map local_in c.in_ok-locals.locals, map param_in c.in_ok-locals.locals)) c.as_slice.ensures (c.in_ok-locals.ensures.params after reads)) (c.in_ok-params.ensures ∙ ap (map param_in) c.as_slice-2.ensures) (c.in_ok-result.ensures.of after.cons reads)
