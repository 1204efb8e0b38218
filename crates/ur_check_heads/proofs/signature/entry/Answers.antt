use Rattle.std.proofs.Common.{refl, ap, subst}
use Rattle.std.specs.Prelude.{codes}
use Rattle.ur_typed_rules.specs.Names.{function, val}
use Rattle.ur_typed_rules.specs.Faults.{not_so, unknown}
use Rattle.ur_check_scopes.specs.declared.names.Means.TheVariants as means
use Rattle.ur_check_scopes.specs.Views.{StopIs}
use Rattle.ur_check_scopes.proofs.Exits.{refused-exit}
use Rattle.ur_typed.specs.DeclFaults.{BreaksEntry, unknown_entry, val_entry}
use Rattle.ur_check_heads.proofs.RoutesEntering.{looked-to, looked-none, told-here}
use Rattle.ur_check_heads.proofs.signature.entry.Goals as goal

pub returns-in_err-function_fits-in-Function-clause-refused : goal.returns-in_err-function_fits-in-Function-clause-refused
returns-in_err-function_fits-in-Function-clause-refused c =
    refused-exit c.from_residual.result c.in_err-function_fits-in-Function.field-0.0 c.from_residual.ensures.1
    (λ r h home z s.
    h home z s (looked-to c.args.project.now c.args.val.now c.as_slice.result.now c.meaning.result c.in-Some.means (means.Function c.in-Function.number) (function c.in-Function.number) c.as_slice.ensures c.in-Some.is c.in-Function.is refl c.meaning.ensures home z s))
    c.in_err-function_fits-in-Function.ensures.refused

pub returns-in_ok-function_fits-in-Function-clause-ok : goal.returns-in_ok-function_fits-in-Function-clause-ok
returns-in_ok-function_fits-in-Function-clause-ok c = λ home z s.
    c.in_ok-function_fits-in-Function.ensures.ok home z s
    (looked-to c.args.project.now c.args.val.now c.as_slice.result.now c.meaning.result c.in-Some.means (means.Function c.in-Function.number) (function c.in-Function.number) c.as_slice.ensures c.in-Some.is c.in-Function.is refl c.meaning.ensures home z s)

pub returns-in-Val-clause-refused : goal.returns-in-Val-clause-refused
returns-in-Val-clause-refused c =
    told-here c.args.project.now c.not_so.result (not_so (codes "an entry") (codes "a page function")) (λ z. BreaksEntry 65536 z c.args.val.now)
    (λ home z s. val_entry (looked-to c.args.project.now c.args.val.now c.as_slice.result.now c.meaning.result c.in-Some.means _ (val _) c.as_slice.ensures c.in-Some.is c.in-Val.is refl c.meaning.ensures home z s)) c.not_so.ensures

pub returns-in-None-clause-refused : goal.returns-in-None-clause-refused
returns-in-None-clause-refused c =
    told-here c.args.project.now c.unknown.result (unknown c.args.val.now.name) (λ z. BreaksEntry 65536 z c.args.val.now)
    (λ home z s. unknown_entry (looked-none c.args.project.now c.args.val.now c.as_slice.result.now c.meaning.result c.as_slice.ensures c.in-None.is c.meaning.ensures home z s))
    (λ names. subst (λ x. StopIs names (unknown x) c.unknown.result) c.as_slice-in-None.ensures (c.unknown.ensures names))
