use Rattle.std.proofs.Common.{ℕ, ◌≡◌, None, Some, ◌++◌, [], length, sym, subst, ◌∙◌}
use Rattle.ur_terms.specs.declared.term.Op.TheVariants as op
use Rattle.ur_source.specs.Items.{has_unit}
use Rattle.ur_meaning.specs.declared.head.Head.TheVariants as head
use Rattle.ur_unfold_pieces.specs.Told.{exps_told, held_told}
use Rattle.ur_unfold_table.specs.Opened.{IsOpened}
use Rattle.ur_unfold_table.proofs.Forming.{err_opened, opened_none, opened_some, opened_err}
use Rattle.ur_unfold_table.proofs.markups.button_form.Goals as goal

pub returns-in_err-count : goal.returns-in_err-count
returns-in_err-count c =
    let err = err_opened c.from_residual.result c.in_err-count.field-0.0 c.from_residual.ensures.1 c.in_err-count.ensures in
    let ts = exps_told c.args.scope c.args.args.now ++ held_told c.args.scope c.args.label.now in
    opened_err (has_unit c.args.handlers.now c.args.route (length c.args.args.now)) (λ u. IsOpened (head.Strict (op.Submit c.args.route (length c.args.args.now) u)) (exps_told c.args.scope c.args.args.now ++ held_told c.args.scope c.args.label.now)) c.from_residual.result (err head.Nothing []) (λ u. err (head.Strict (op.Submit c.args.route (length c.args.args.now) u)) ts)

pub returns-in-None : goal.returns-in-None
returns-in-None c =
    opened_none (has_unit c.args.handlers.now c.args.route (length c.args.args.now)) (λ u. IsOpened (head.Strict (op.Submit c.args.route (length c.args.args.now) u)) (exps_told c.args.scope c.args.args.now ++ held_told c.args.scope c.args.label.now)) c.nothing.result
    (subst (λ (n : ℕ). has_unit c.args.handlers.now c.args.route n ≡ None) c.in_ok-count.ensures (sym c.has_unit.ensures ∙ c.in-None.is)) c.nothing.ensures

pub returns-in-Some : goal.returns-in-Some
returns-in-Some c =
    opened_some (has_unit c.args.handlers.now c.args.route (length c.args.args.now)) (λ u. IsOpened (head.Strict (op.Submit c.args.route (length c.args.args.now) u)) (exps_told c.args.scope c.args.args.now ++ held_told c.args.scope c.args.label.now)) c.button.result c.in-Some.unit
    (subst (λ (n : ℕ). has_unit c.args.handlers.now c.args.route n ≡ Some c.in-Some.unit) c.in_ok-count.ensures (sym c.has_unit.ensures ∙ c.in-Some.is))
    (subst (λ (n : ℕ). IsOpened (head.Strict (op.Submit c.args.route n c.in-Some.unit)) (exps_told c.args.scope c.args.args.now ++ held_told c.args.scope c.args.label.now) c.button.result) c.in_ok-count.ensures c.button.ensures)
