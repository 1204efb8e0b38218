use Rattle.std.proofs.Common.{sym, ap, ap₂, subst, ◌∙◌}
use Rattle.std.specs.Prelude.{nat_le}
use Rattle.std.proofs.lemmas.Bool.{le-leb}
use Rattle.ur_rows.specs.Nodes.{nodes, most_nodes}
use Rattle.ur_rows.specs.Put.{as_type}
use Rattle.ur_rows.specs.Types.{arrows_of}
use Rattle.ur_tree.specs.Heads.{function_type}
use Rattle.ur_tree.specs.Typing.{types_of}
use Rattle.ur_typed_rules.specs.Faults.{too_large, types_differ}
use Rattle.ur_check_scopes.specs.Views.{StopIs, head_in}
use Rattle.ur_check_scopes.proofs.Exits.{refused-exit}
use Rattle.ur_typed.specs.Project.{env_at}
use Rattle.ur_check_heads.proofs.Reading.{told-all}
use Rattle.ur_check_heads.proofs.Written.{large-read}
use Rattle.ur_check_heads.specs.Entries.{is_large, OtherType}
use Rattle.ur_check_heads.proofs.RoutesEntering.{compared, told-types}
use Rattle.ur_check_heads.proofs.signature.is_of_type.Goals as goal

pub returns-in_err-form-clause-refused : goal.returns-in_err-form-clause-refused
returns-in_err-form-clause-refused c =
    refused-exit c.from_residual.result c.in_err-form.field-0.0 c.from_residual.ensures.1
    (λ r h home z s. (too_large, is_large (large-read (env_at z.place) c.args.con.now (h.1 (env_at z.place) (c.top-around.ensures.stands home z s).cons)), h.0)) c.in_err-form.ensures.refused

pub returns-then-same_type-clause-small : goal.returns-then-same_type-clause-small
returns-then-same_type-clause-small c = λ home z s.
    let reads = (c.top-around.ensures.stands home z s).cons in
    ap (λ n. nat_le (nodes n) 65536) (sym (c.in_ok-form.ensures.form (env_at z.place) reads)) ∙ le-leb (nodes c.in_ok-form.form) most_nodes (c.in_ok-form.ensures.small (env_at z.place) reads)

pub returns-then-same_type-clause-same : goal.returns-then-same_type-clause-same
returns-then-same_type-clause-same c = λ home z s.
    let reads = (c.top-around.ensures.stands home z s).cons in
    compared z c.args.con.now (head_in c.args.head.now) c.in_ok-of.of c.as_type-wanted.result c.same_type.result _ c.same_type.ensures c.if-same_type.true
    (c.in_ok-of.ensures ∙ ap (λ ps. arrows_of (types_of ps) c.args.head.now.result) c.as_slice.ensures) (c.as_type-wanted.ensures ∙ ap as_type (c.in_ok-form.ensures.form (env_at z.place) reads))

pub returns-clause-refused : goal.returns-clause-refused
returns-clause-refused c =
    told-all c.args.project.now c.types_differ.result (types_differ c.args.project.now.world.datatype_names c.in_ok-of.of c.as_type-wanted.result) (λ z. OtherType z c.args.con.now (head_in c.args.head.now))
    (subst (λ ns. StopIs ns (types_differ ns c.in_ok-of.of c.as_type-wanted.result) c.types_differ.result) c.as_slice-names.ensures c.types_differ.ensures)
    (λ home z s.
    let reads = (c.top-around.ensures.stands home z s).cons in
    told-types c.args.project.now home z c.args.con.now (head_in c.args.head.now) c.in_ok-of.of c.as_type-wanted.result c.same_type.result s c.same_type.ensures c.if-same_type.false
    (c.in_ok-of.ensures ∙ ap (λ ps. arrows_of (types_of ps) c.args.head.now.result) c.as_slice.ensures) (c.as_type-wanted.ensures ∙ ap as_type (c.in_ok-form.ensures.form (env_at z.place) reads)))
