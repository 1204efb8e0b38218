use Rattle.std.proofs.Common.{sym, ◌∙◌, subst}
use Rattle.std.specs.Prelude.{codes}
use Rattle.ur_tree.specs.Text.{type_text}
use Rattle.ur_typed_rules.specs.Faults.{not_so}
use Rattle.ur_check_scopes.specs.Views.{StopIs}
use Rattle.ur_check_rules.proofs.Settling.{accepted-made, grows-told, runs-told, moves-told}
use Rattle.ur_check_rules.proofs.out.is_accepted.Goals as goal

pub returns-then-not-is_small-clause-refused : goal.returns-then-not-is_small-clause-refused
returns-then-not-is_small-clause-refused c = grows-told c.args.around.now c.args.out.now c.too_large.result (sym c.is_small.ensures ∙ c.if-not-is_small.true) c.too_large.ensures

pub returns-then-not-may_run-clause-refused : goal.returns-then-not-may_run-clause-refused
returns-then-not-may_run-clause-refused c =
    let o = c.args.out.now in
    runs-told c.args.around.now o c.type_not_so.result (sym c.may_run.ensures ∙ c.if-not-may_run.true)
    (subst (λ z. StopIs z (not_so (type_text z o.of) (codes "no transaction within")) c.type_not_so.result) c.as_slice-names.ensures c.type_not_so.ensures)

pub returns-then-may_move-clause-ok : goal.returns-then-may_move-clause-ok
returns-then-may_move-clause-ok c =
    let o = c.args.out.now in
    accepted-made o.exp o.of (sym c.is_small.ensures ∙ c.if-not-is_small.false) (sym c.may_run.ensures ∙ c.if-not-may_run.false) (sym c.may_move.ensures ∙ c.if-may_move.true)

pub returns-clause-refused : goal.returns-clause-refused
returns-clause-refused c =
    let o = c.args.out.now in
    moves-told c.args.around.now o c.type_not_so-2.result (sym c.may_move.ensures ∙ c.if-may_move.false)
    (subst (λ z. StopIs z (not_so (type_text z o.of) (codes "a static expression")) c.type_not_so-2.result) c.as_slice-names.ensures c.type_not_so-2.ensures)
