use Rattle.std.proofs.Common.{ap, ◌∙◌, sym, subst, ◌≡◌, true}
use Rattle.ur_rows.specs.Put.{instance_type}
use Rattle.ur_rows_normal.specs.Arguments.{are_normal}
use Rattle.ur_check_scopes.specs.Arguments.{types_at}
use Rattle.ur_check_scopes.specs.Views.{env_in}
use Rattle.ur_check_scopes.proofs.Exits.{ok-along, refused-along, refused-exit}
use Rattle.ur_check_rules.proofs.Naming.{unfit-there}
use Rattle.ur_check_walk.proofs.Applying.{types-met, types-unfit, types-large}
use Rattle.ur_check_walk.proofs.applied.call_types.Goals as goal

pub are_arguments-requires : goal.are_arguments-requires
are_arguments-requires c = subst (λ z. are_normal z ≡ true) (sym c.as_slice-cons.ensures) c.requires

pub instances_of-requires : goal.instances_of-requires
instances_of-requires c = subst (λ z. are_normal z ≡ true) (sym c.as_slice-cons.ensures) c.requires

pub returns-clause-types : goal.returns-clause-types
returns-clause-types c = ok-along c.instances_of.result (λ o h. h ∙ ap (λ z. types_at z c.args.head.now.params) c.as_slice-cons.ensures) c.instances_of.ensures.types

pub returns-clause-of : goal.returns-clause-of
returns-clause-of c = ok-along c.instances_of.result (λ o h. h ∙ ap (λ z. instance_type z c.args.head.now.result) c.as_slice-cons.ensures) c.instances_of.ensures.of

pub returns-clause-met : goal.returns-clause-met
returns-clause-met c =
    ok-along c.instances_of.result
    (λ o h. types-met c.args.around.now c.args.function.now.args c.as_slice-cons.result.now c.as_slice-params.result.now c.args.head.now c.as_slice-cons.ensures c.as_slice-params.ensures c.in_ok-are_arguments.ensures.ok h) c.instances_of.ensures.small

pub returns-clause-refused : goal.returns-clause-refused
returns-clause-refused c =
    refused-along c.instances_of.result (λ r h. types-large c.args.around.now c.args.function.now c.as_slice-cons.result.now c.args.head.now r c.as_slice-cons.ensures h.0 h.1) c.instances_of.ensures.refused

pub returns-in_err-are_arguments-clause-refused : goal.returns-in_err-are_arguments-clause-refused
returns-in_err-are_arguments-clause-refused c =
    let a = c.args.around.now in
    refused-exit c.from_residual.result c.in_err-are_arguments.field-0.0 c.from_residual.ensures.1
    (λ r h. types-unfit a c.args.function.now c.args.head.now r
    (unfit-there a.world.now.datatype_names (env_in a.scope.cons) c.as_slice-given.result.now c.args.function.now.given c.as_slice-cons.result.now c.args.function.now.args c.as_slice-params.result.now c.args.head.now.cons r c.as_slice-given.ensures c.as_slice-cons.ensures c.as_slice-params.ensures h))
    c.in_err-are_arguments.ensures.refused
