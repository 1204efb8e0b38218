use Rattle.std.proofs.Common.{◌≡◌, ap, ap₂, sym, ◌∙◌, subst, ◌<◌, true}
use Rattle.ur_rows.specs.Put.{instance_type}
use Rattle.ur_rows.specs.Nodes.{type_nodes, most_nodes}
use Rattle.ur_rows.specs.Types.{arrows_of}
use Rattle.ur_tree.specs.Heads.{function_type}
use Rattle.ur_tree.specs.Typing.{keeps_arrows, types_of}
use Rattle.ur_typed_rules.specs.Tests.{are_arguments}
use Rattle.ur_check_scopes.specs.Views.{env_in, head_in}
use Rattle.ur_check_scopes.proofs.Exits.{ok-along, refused-along, refused-exit}
use Rattle.ur_check_rules.proofs.Naming.{unfit-there, passed-made, passed-unfit, passed-loses, passed-large}
use Rattle.ur_check_rules.proofs.values.passed_type.Goals as goal

pub returns-in_err-are_arguments-clause-refused : goal.returns-in_err-are_arguments-clause-refused
returns-in_err-are_arguments-clause-refused c =
    let a = c.args.around.now in
    refused-exit c.from_residual.result c.in_err-are_arguments.field-0.0 c.from_residual.ensures.1
    (λ r h. passed-unfit a c.args.applied.now c.args.head.now r
    (unfit-there a.world.now.datatype_names (env_in a.scope.cons) c.as_slice-given.result.now c.args.applied.now.given c.as_slice-args.result.now c.args.applied.now.args c.as_slice-cons.result.now c.args.head.now.cons r c.as_slice-given.ensures c.as_slice-args.ensures c.as_slice-cons.ensures h))
    c.in_err-are_arguments.ensures.refused

pub returns-then-not-keeps-clause-refused : goal.returns-then-not-keeps-clause-refused
returns-then-not-keeps-clause-refused c =
    passed-loses c.args.around.now c.args.applied.now c.args.head.now c.not_so.result
    (ap₂ keeps_arrows (sym c.as_slice-args.ensures) (sym c.as_slice-params.ensures) ∙ sym c.in_ok-keeps.ensures ∙ c.if-not-keeps.true) c.not_so.ensures

pub returns-clause-passed : goal.returns-clause-passed
returns-clause-passed c =
    let env = env_in c.args.around.now.scope.cons in
    let f = c.args.applied.now in
    let head = c.args.head.now in
    let ok : are_arguments env head.cons f.args ≡ true = ap₂ (are_arguments env) (sym c.as_slice-cons.ensures) (sym c.as_slice-args.ensures) ∙ c.in_ok-are_arguments.ensures.ok in
    let keeps : keeps_arrows f.args head.params ≡ true = ap₂ keeps_arrows (sym c.as_slice-args.ensures) (sym c.as_slice-params.ensures) ∙ sym c.in_ok-keeps.ensures ∙ c.if-not-keeps.false in
    let is : c.in_ok-whole.whole ≡ function_type (head_in head) = c.in_ok-whole.ensures ∙ ap (λ z. arrows_of (types_of z) head.result) c.as_slice-params.ensures in
    ok-along c.instance_of.result (λ t h. passed-made c.args.around.now f.number f.args head t c.in_ok-whole.whole ok keeps is (h ∙ ap (λ z. instance_type z c.in_ok-whole.whole) c.as_slice-args.ensures)) c.instance_of.ensures.form

pub returns-clause-refused : goal.returns-clause-refused
returns-clause-refused c =
    let env = env_in c.args.around.now.scope.cons in
    let f = c.args.applied.now in
    let head = c.args.head.now in
    let ok : are_arguments env head.cons f.args ≡ true = ap₂ (are_arguments env) (sym c.as_slice-cons.ensures) (sym c.as_slice-args.ensures) ∙ c.in_ok-are_arguments.ensures.ok in
    let keeps : keeps_arrows f.args head.params ≡ true = ap₂ keeps_arrows (sym c.as_slice-args.ensures) (sym c.as_slice-params.ensures) ∙ sym c.in_ok-keeps.ensures ∙ c.if-not-keeps.false in
    let is : c.in_ok-whole.whole ≡ function_type (head_in head) = c.in_ok-whole.ensures ∙ ap (λ z. arrows_of (types_of z) head.result) c.as_slice-params.ensures in
    refused-along c.instance_of.result
    (λ r h. passed-large c.args.around.now f head c.in_ok-whole.whole ok keeps is r h.0 (subst (λ z. most_nodes < type_nodes (instance_type z c.in_ok-whole.whole)) c.as_slice-args.ensures h.1))
    c.instance_of.ensures.refused
