use Rattle.std.proofs.lemmas.Bool.{le-leb}
use Rattle.ur_rows.specs.Nodes.{nodes, most_nodes}
use Rattle.ur_typed_rules.specs.Faults.{too_large}
use Rattle.ur_typed_rules.specs.Arguments.{BreaksCon}
use Rattle.ur_check_scopes.specs.Views.{env_in}
use Rattle.ur_check_scopes.proofs.Exits.{ok-along, refused-exit, refused-along, refuses}
use Rattle.ur_typed.specs.Project.{env_at}
use Rattle.ur_typed.specs.Declaring.{datatype_names}
use Rattle.ur_typed.specs.DeclFaults.{BreaksDefined, large_con}
use Rattle.ur_check_heads.proofs.Reading.{named-as, defined-so, defined-breaks}
use Rattle.ur_check_heads.proofs.Written.{large-read}
use Rattle.ur_check_heads.proofs.datatypes.may_be_defined.Goals as goal

pub returns-in_err-form-clause-refused : goal.returns-in_err-form-clause-refused
returns-in_err-form-clause-refused c =
    refused-exit c.from_residual.result c.in_err-form.field-0.0 c.from_residual.ensures.1
    (λ r h home z s. (too_large, large_con (large-read (env_at z.place) c.args.con.now (h.1 (env_at z.place) (c.top-around.ensures.stands home z s).cons)), h.0)) c.in_err-form.ensures.refused

pub returns-clause-ok : goal.returns-clause-ok
returns-clause-ok c =
    ok-along c.con_apart.result
    (λ u h home z s.
    let reads = (c.top-around.ensures.stands home z s).cons in
    defined-so z c.args.con.now c.in_ok-form.form (env_in c.top-around.result.scope.cons) (c.in_ok-form.ensures.form (env_at z.place) reads) (le-leb (nodes c.in_ok-form.form) most_nodes (c.in_ok-form.ensures.small (env_at z.place) reads)) c.top-around.ensures.cons h)
    c.con_apart.ensures.ok

pub returns-clause-refused : goal.returns-clause-refused
returns-clause-refused c =
    refused-along c.con_apart.result
    (λ r h home z s.
    let env = env_in c.top-around.result.scope.cons in
    refuses (datatype_names z) (BreaksCon env.known c.args.con.now c.in_ok-form.form) (BreaksDefined 65536 z c.args.con.now)
    (λ f b. defined-breaks z c.args.con.now c.in_ok-form.form env f (c.in_ok-form.ensures.form (env_at z.place) (c.top-around.ensures.stands home z s).cons) c.top-around.ensures.cons b) r
    (named-as c.args.project.now home z c.top-around.result.world.now (BreaksCon env.known c.args.con.now c.in_ok-form.form) r s c.top-around.ensures.world h))
    c.con_apart.ensures.refused
