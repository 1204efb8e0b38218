use Rattle.std.proofs.Common.{ap, sym, subst, ◌∙◌, ◌<◌}
use Rattle.ur_rows.specs.Nodes.{type_nodes, most_nodes}
use Rattle.ur_rows.specs.Normal.{as_function}
use Rattle.ur_rows.specs.Types.{at_row}
use Rattle.ur_tree.specs.Typing.{step_rest}
use Rattle.ur_typed_rules.specs.Faults.{TellsType as TellsFault, too_large}
use Rattle.ur_check_scopes.specs.Views.{env_in}
use Rattle.ur_check_scopes.proofs.Exits.{refused-exit}
use Rattle.ur_check_rules.proofs.Settling.{types-told}
use Rattle.ur_check_walk.specs.Folding.{rest_large, acc_misplaced}
use Rattle.ur_check_walk.proofs.Folds.{acc-told}
use Rattle.ur_check_walk.proofs.folded.accumulates.Goals as goal

pub returns-in_err-wanted-clause-refused : goal.returns-in_err-wanted-clause-refused
returns-in_err-wanted-clause-refused c = refused-exit c.from_residual-in_err-wanted.result c.in_err-wanted.field-0.0 c.from_residual-in_err-wanted.ensures.1
    (λ r h w. (too_large, rest_large (subst (λ z. most_nodes < type_nodes (at_row (as_function c.args.function.now) z)) c.in_ok-rest.ensures h.1), h.0)) c.in_err-wanted.ensures.refused

pub returns-in_err-written_is_param-clause-refused : goal.returns-in_err-written_is_param-clause-refused
returns-in_err-written_is_param-clause-refused c = refused-exit c.from_residual-in_err-written_is_param.result c.in_err-written_is_param.field-0.0 c.from_residual-in_err-written_is_param.ensures.1
    (λ r h w. (h.0, acc_misplaced h.1, subst (λ z. TellsFault z.now.datatype_names r h.0) w h.2)) c.in_err-written_is_param.ensures.refused

pub returns-clause-refused : goal.returns-clause-refused
returns-clause-refused c = acc-told c.args.around.now c.args.bare.now c.args.step.now.acc.now c.args.local.now.of (at_row (as_function c.args.function.now) (step_rest (env_in c.args.around.now.scope.cons))) c.in_ok-wanted.wanted c.acc_differs.result c.in_ok-written_is_param.ensures.ok
    (sym (types-told c.equal_types.result c.args.local.now.of c.in_ok-wanted.wanted c.equal_types.ensures) ∙ c.if-equal_types.false) (c.in_ok-wanted.ensures.form ∙ ap (at_row (as_function c.args.function.now)) c.in_ok-rest.ensures) c.acc_differs.ensures
