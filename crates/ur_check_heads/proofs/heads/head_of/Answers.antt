use Rattle.std.proofs.Common.{subst}
use Rattle.ur_typed_rules.specs.Faults.{too_large}
use Rattle.ur_check_scopes.specs.Views.{head_in}
use Rattle.ur_check_scopes.proofs.Exits.{refused-exit}
use Rattle.ur_typed.specs.Project.{env_at, names_at}
use Rattle.ur_typed.specs.Declaring.{datatype_names}
use Rattle.ur_check_heads.specs.Views.{IsHeadScope}
use Rattle.ur_check_heads.proofs.Entering.{prepared-seen}
use Rattle.ur_check_heads.proofs.Fitting.{head-fitting, head-breaks, env-within}
use Rattle.ur_check_heads.proofs.heads.head_of.Goals as goal

pub returns-clause-head : goal.returns-clause-head
returns-clause-head c = λ home z s.
    let reads = c.in_scope-place.ensures (env_at z.place) (prepared-seen c.args.project.now home z s) in
    let w = c.in_ok-head.ensures.head (names_at z.place) reads in
    let scope = subst (IsHeadScope c.in_ok-scope.scope) c.as_slice.ensures c.in_ok-scope.ensures in
    let env = env-within c.in_ok-scope.scope (head_in c.in_ok-head.head) c.around_head-around.result.scope.cons.kinds.now c.around_head-around.result.scope.cons.known.now scope c.around_head-around.ensures.kinds c.around_head-around.ensures.known in
    head-fitting (names_at z.place) c.args.function.now w.0 (head_in c.in_ok-head.head) w.1 w.2 (c.in_ok-head_fits.ensures.ok env (names_at z.place) w.0 w.1 w.2)

pub returns-in_err-head-clause-refused : goal.returns-in_err-head-clause-refused
returns-in_err-head-clause-refused c =
    refused-exit c.from_residual.result c.in_err-head.field-0.0 c.from_residual.ensures.1
    (λ r h home z s. (too_large, h.1 (names_at z.place) (datatype_names z) (c.in_scope-place.ensures (env_at z.place) (prepared-seen c.args.project.now home z s)), h.0)) c.in_err-head.ensures.refused

pub returns-in_err-head_fits-clause-refused : goal.returns-in_err-head_fits-clause-refused
returns-in_err-head_fits-clause-refused c =
    refused-exit c.from_residual-in_err-head_fits.result c.in_err-head_fits.field-0.0 c.from_residual-in_err-head_fits.ensures.1
    (λ r h home z s.
    let reads = c.in_scope-place.ensures (env_at z.place) (prepared-seen c.args.project.now home z s) in
    let w = c.in_ok-head.ensures.head (names_at z.place) reads in
    let scope = subst (IsHeadScope c.in_ok-scope.scope) c.as_slice.ensures c.in_ok-scope.ensures in
    let env = env-within c.in_ok-scope.scope (head_in c.in_ok-head.head) c.around_head-around.result.scope.cons.kinds.now c.around_head-around.result.scope.cons.known.now scope c.around_head-around.ensures.kinds c.around_head-around.ensures.known in
    head-breaks c.args.project.now home z c.around_head-around.result.world.now c.args.function.now (head_in c.in_ok-head.head) r s c.around_head-around.ensures.world w.0 w.1 w.2 (h env))
    c.in_err-head_fits.ensures.refused
