use Rattle.std.specs.Prelude.{codes}
use Rattle.std.proofs.Common.{sym, subst, ◌∷◌, [], ◌≡◌, Some}
use Rattle.ur_rows_normal.specs.Preparing.{Reads}
use Rattle.ur_typed_rules.specs.Faults.{not_so}
use Rattle.ur_typed_rules.specs.Rules.{params_out}
use Rattle.ur_typed_rules.specs.Arguments.{BreaksForms, bare_form, con_form}
use Rattle.ur_check_scopes.specs.Views.{Refuses, local_in, param_in}
use Rattle.ur_check_scopes.proofs.Exits.{ok-along, refused-along}
use Rattle.ur_check_scopes.proofs.Writing.{typed-out, typed-large, told-of-all}
use Rattle.ur_check_scopes.proofs.params.lambda_param_out.Goals as goal

pub returns-in-Typed-clause-param : goal.returns-in-Typed-clause-param
returns-in-Typed-clause-param c =
    ok-along c.param_out.result
    (λ l h names reads. subst (λ z. params_out 65536 names (z ∷ []) ≡ Some (local_in l ∷ [], param_in l ∷ [])) (sym c.in-Typed.is) (typed-out names c.in-Typed.p l (h names reads)))
    c.param_out.ensures.param

pub returns-in-Typed-clause-refused : goal.returns-in-Typed-clause-refused
returns-in-Typed-clause-refused c =
    refused-along c.param_out.result
    (λ r h names reads. subst (λ z. Refuses [] (BreaksForms 65536 names (z ∷ [])) r) (sym c.in-Typed.is) (typed-large names c.in-Typed.p r h.0 (h.1 names reads)))
    c.param_out.ensures.refused

pub returns-in-Con-clause-refused : goal.returns-in-Con-clause-refused
returns-in-Con-clause-refused c =
    told-of-all (λ names. Reads c.args.cons.now.names names.cons) (λ names. BreaksForms 65536 names (c.args.param.now ∷ [])) c.not_so.result (not_so (codes "a parameter") (codes "its type")) (λ names. subst (λ z. BreaksForms 65536 names (z ∷ []) (not_so (codes "a parameter") (codes "its type"))) (sym c.in-Con.is) con_form) (c.not_so.ensures [])

pub returns-in-Bare-clause-refused : goal.returns-in-Bare-clause-refused
returns-in-Bare-clause-refused c =
    told-of-all (λ names. Reads c.args.cons.now.names names.cons) (λ names. BreaksForms 65536 names (c.args.param.now ∷ [])) c.not_so-in-Bare.result (not_so (codes "a parameter") (codes "its type")) (λ names. subst (λ z. BreaksForms 65536 names (z ∷ []) (not_so (codes "a parameter") (codes "its type"))) (sym c.in-Bare.is) bare_form) (c.not_so-in-Bare.ensures [])
