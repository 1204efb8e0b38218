use Rattle.std.proofs.Common.{◌∙◌, map, subst}
use Rattle.ur_disjoint.specs.Tests.{pair}
use Rattle.ur_typed_rules.specs.Faults.{not_apart}
use Rattle.ur_tree.specs.declared.typed.ConParam.TheVariants as con_param
use Rattle.ur_check_scopes.specs.Views.{StopIs}
use Rattle.ur_check_scopes.proofs.Exits.{told}
use Rattle.ur_check_scopes.proofs.Meeting.{proved}
use Rattle.ur_check_scopes.specs.Arguments.{BreaksMet}
use Rattle.ur_check_scopes.proofs.Giving.{apart-met, apart-unmet}
use Rattle.ur_check_scopes.proofs.arguments.are_apart.Goals as goal

pub returns-then-prove-clause-ok : goal.returns-then-prove-clause-ok
returns-then-prove-clause-ok c =
    let known = map pair c.args.around.now.scope.cons.known.now in
    apart-met known c.args.args.now c.args.left.now c.args.right.now c.as_slice-first.result.now c.as_slice-second.result.now c.prove.result
    (c.as_slice-first.ensures ∙ c.in_ok-left.ensures) (c.as_slice-second.ensures ∙ c.in_ok-right.ensures) (proved known c.as_slice-first.result.now c.as_slice-second.result.now c.prove.result c.prove.ensures) c.if-prove.true

pub returns-clause-refused : goal.returns-clause-refused
returns-clause-refused c =
    let known = map pair c.args.around.now.scope.cons.known.now in
    told c.args.around.now.world.now.datatype_names (BreaksMet known c.args.args.now (con_param.Apart c.args.left.now c.args.right.now)) c.not_apart.result
    (not_apart c.as_slice-first.result.now c.as_slice-second.result.now)
    (apart-unmet known c.args.args.now c.args.left.now c.args.right.now c.as_slice-first.result.now c.as_slice-second.result.now c.prove.result
    (c.as_slice-first.ensures ∙ c.in_ok-left.ensures) (c.as_slice-second.ensures ∙ c.in_ok-right.ensures) (proved known c.as_slice-first.result.now c.as_slice-second.result.now c.prove.result c.prove.ensures) c.if-prove.false)
    (subst (λ z. StopIs z (not_apart c.as_slice-first.result.now c.as_slice-second.result.now) c.not_apart.result) c.as_slice-names.ensures c.not_apart.ensures)
