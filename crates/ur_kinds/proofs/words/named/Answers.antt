use Rattle.std.proofs.Common.{sym, ap, ◌∙◌, subst}
use Rattle.std.specs.Prelude.{option_copied}
use Rattle.ur_syntax.specs.declared.con.ConForm.TheVariants as con
use Rattle.ur_syntax.specs.HasKind.{HasKind, named}
use Rattle.ur_kinds.specs.Walk.{scope_of}
use Rattle.ur_kinds.proofs.words.named.Goals as goal

pub returns-in_ok-copy_kind-in-Some-clause-kind : goal.returns-in_ok-copy_kind-in-Some-clause-kind
returns-in_ok-copy_kind-in-Some-clause-kind c = subst (λ k. HasKind (scope_of c.args.names.now) (con.Var c.args.x.now) k) (sym c.in_ok-copy_kind-in-Some.ensures)
    (named (sym c.seen.ensures ∙ ap option_copied c.in-Some.is))
