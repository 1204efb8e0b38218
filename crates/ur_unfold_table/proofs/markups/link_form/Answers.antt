use Rattle.std.proofs.Common.{◌++◌, [], length, sym, ◌∙◌}
use Rattle.ur_terms.specs.declared.term.Op.TheVariants as op
use Rattle.ur_source.specs.Items.{route_of}
use Rattle.ur_meaning.specs.declared.head.Head.TheVariants as head
use Rattle.ur_unfold_pieces.specs.Told.{exps_told, parts_told}
use Rattle.ur_unfold_table.specs.Opened.{IsOpened}
use Rattle.ur_unfold_table.proofs.Forming.{err_opened, opened_none, opened_some, opened_err}
use Rattle.ur_unfold_table.proofs.markups.link_form.Goals as goal

pub returns-in_err-route_of : goal.returns-in_err-route_of
returns-in_err-route_of c =
    let err = err_opened c.from_residual.result c.in_err-route_of.field-0.0 c.from_residual.ensures.1 c.in_err-route_of.ensures in
    opened_err (route_of c.args.targets.now c.args.k) (λ r. IsOpened (head.Strict (op.Link r (length c.args.args.now))) (exps_told c.args.scope c.args.args.now ++ parts_told c.args.scope c.args.children.now)) c.from_residual.result
    (err head.Nothing []) (λ r. err (head.Strict (op.Link r (length c.args.args.now))) (exps_told c.args.scope c.args.args.now ++ parts_told c.args.scope c.args.children.now))

pub returns-in-None : goal.returns-in-None
returns-in-None c =
    opened_none (route_of c.args.targets.now c.args.k) (λ r. IsOpened (head.Strict (op.Link r (length c.args.args.now))) (exps_told c.args.scope c.args.args.now ++ parts_told c.args.scope c.args.children.now)) c.nothing.result
    (sym c.in_ok-route_of.ensures ∙ c.in-None.is) c.nothing.ensures

pub returns-in-Some : goal.returns-in-Some
returns-in-Some c =
    opened_some (route_of c.args.targets.now c.args.k) (λ r. IsOpened (head.Strict (op.Link r (length c.args.args.now))) (exps_told c.args.scope c.args.args.now ++ parts_told c.args.scope c.args.children.now)) c.link.result
    c.in-Some.route (sym c.in_ok-route_of.ensures ∙ c.in-Some.is) c.link.ensures
