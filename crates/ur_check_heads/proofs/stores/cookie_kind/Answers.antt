use Rattle.std.specs.Prelude.{codes, option_and_then}
use Rattle.std.proofs.Common.{sym, ◌∙◌, ap, subst}
use Rattle.ur_check_scopes.specs.Views.{StopIs}
use Rattle.ur_sqltype.specs.Table.{type_kind}
use Rattle.ur_typed_rules.specs.Faults.{not_of_type, too_large}
use Rattle.ur_check_scopes.proofs.Exits.{refused-exit}
use Rattle.ur_typed.specs.DeclFaults.{form_of, BreaksCookie, large_cookie}
use Rattle.ur_check_heads.proofs.Reading.{told-all, small-is, no-cookie}
use Rattle.ur_check_heads.proofs.stores.cookie_kind.Goals as goal

pub returns-in_err-of-clause-refused : goal.returns-in_err-of-clause-refused
returns-in_err-of-clause-refused c =
    refused-exit c.from_residual.result c.in_err-of.field-0.0 c.from_residual.ensures.1 (λ r h home z s. (too_large, large_cookie (h.1 home z s), h.0)) c.in_err-of.ensures.refused

pub returns-in-Some-clause-kind : goal.returns-in-Some-clause-kind
returns-in-Some-clause-kind c = λ home z s. ap (option_and_then type_kind) (c.in_ok-of.ensures.of home z s) ∙ sym c.kind_of.ensures ∙ c.in-Some.is

pub returns-clause-refused : goal.returns-clause-refused
returns-clause-refused c =
    told-all c.args.project.now c.not_of_type.result (not_of_type c.args.project.now.world.datatype_names c.in_ok-of.of (codes "int, string or bool")) (λ z. BreaksCookie 65536 z c.args.con.now)
    (subst (λ ns. StopIs ns (not_of_type ns c.in_ok-of.of (codes "int, string or bool")) c.not_of_type.result) c.as_slice-names.ensures c.not_of_type.ensures)
    (λ home z s. no-cookie c.args.project.now home z c.args.con.now c.in_ok-of.of s (small-is (form_of z c.args.con.now) c.in_ok-of.of (c.in_ok-of.ensures.of home z s)) (sym c.kind_of.ensures ∙ c.in-None.is))
