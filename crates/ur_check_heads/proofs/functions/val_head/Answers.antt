use Rattle.ur_typed_rules.specs.Faults.{too_large}
use Rattle.ur_typed_rules.specs.Arguments.{BreaksParameter}
use Rattle.ur_check_scopes.specs.Views.{env_in}
use Rattle.ur_check_scopes.proofs.Exits.{refused-exit, refuses}
use Rattle.ur_typed.specs.Project.{env_at}
use Rattle.ur_typed.specs.Declaring.{datatype_names}
use Rattle.ur_typed.specs.DeclFaults.{BreaksVal, large_val}
use Rattle.ur_check_heads.proofs.Reading.{named-as, val-so, val-breaks}
use Rattle.ur_check_heads.proofs.Written.{type-read, large-read}
use Rattle.ur_check_heads.proofs.functions.val_head.Goals as goal

pub returns-in_err-form-clause-refused : goal.returns-in_err-form-clause-refused
returns-in_err-form-clause-refused c =
    refused-exit c.from_residual.result c.in_err-form.field-0.0 c.from_residual.ensures.1
    (λ r h home z s. (too_large, large_val (large-read (env_at z.place) c.args.con.now (h.1 (env_at z.place) (c.top-around.ensures.stands home z s).cons)), h.0)) c.in_err-form.ensures.refused

pub returns-in_err-is_param-clause-refused : goal.returns-in_err-is_param-clause-refused
returns-in_err-is_param-clause-refused c =
    refused-exit c.from_residual-in_err-is_param.result c.in_err-is_param.field-0.0 c.from_residual-in_err-is_param.ensures.1
    (λ r h home z s.
    let env = env_in c.top-around.result.scope.cons in
    let reads = (c.top-around.ensures.stands home z s).cons in
    refuses (datatype_names z) (BreaksParameter env c.args.con.now c.as_type-of.result) (BreaksVal 65536 z c.args.con.now)
    (λ f b. val-breaks z c.args.con.now c.as_type-of.result env f (type-read (env_at z.place) c.args.con.now c.in_ok-form.form c.as_type-of.result (c.in_ok-form.ensures.form (env_at z.place) reads) (c.in_ok-form.ensures.small (env_at z.place) reads) c.as_type-of.ensures)
    c.top-around.ensures.cons b) r
    (named-as c.args.project.now home z c.top-around.result.world.now (BreaksParameter env c.args.con.now c.as_type-of.result) r s c.top-around.ensures.world h))
    c.in_err-is_param.ensures.refused

pub returns-clause-of : goal.returns-clause-of
returns-clause-of c = λ home z s.
    let reads = (c.top-around.ensures.stands home z s).cons in
    val-so z c.args.con.now c.as_type-of.result (env_in c.top-around.result.scope.cons)
    (type-read (env_at z.place) c.args.con.now c.in_ok-form.form c.as_type-of.result (c.in_ok-form.ensures.form (env_at z.place) reads) (c.in_ok-form.ensures.small (env_at z.place) reads) c.as_type-of.ensures) c.top-around.ensures.cons
    c.in_ok-is_param.ensures.ok
