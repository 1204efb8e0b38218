use Rattle.ur_syntax.specs.declared.con.ConEnv.{ConEnv}
use Rattle.ur_typed.specs.Project.{env_at}
use Rattle.ur_check_scopes.proofs.Exits.{refused-exit}
use Rattle.ur_check_heads.proofs.Written.{type-read, large-read}
use Rattle.ur_check_heads.proofs.stores.written_type.Goals as goal

pub returns-clause-of : goal.returns-clause-of
returns-clause-of c = λ home z s.
    let env : ConEnv = env_at z.place in
    let reads = (c.top-around.ensures.stands home z s).cons in
    type-read env c.args.con.now c.in_ok-form.form c.as_type-of.result (c.in_ok-form.ensures.form env reads) (c.in_ok-form.ensures.small env reads) c.as_type-of.ensures

pub returns-in_err-form-clause-refused : goal.returns-in_err-form-clause-refused
returns-in_err-form-clause-refused c =
    refused-exit c.from_residual.result c.in_err-form.field-0.0 c.from_residual.ensures.1
    (λ r h. (h.0, λ home z s. large-read (env_at z.place) c.args.con.now (h.1 (env_at z.place) (c.top-around.ensures.stands home z s).cons))) c.in_err-form.ensures.refused
