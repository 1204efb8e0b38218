use Rattle.std.proofs.Common.{◌≤◌, length, IsTrue, sym, subst, ap, arith}
use Rattle.ur_values.specs.Numbered.{has_number}
use Rattle.ur_keeper.proofs.Drafts.{left-has, row-removed}
use Rattle.ur_keeper.proofs.draft.Draft.remove.Goals as goal

pub find-at-requires-clause-there : goal.find-at-requires-clause-there
find-at-requires-clause-there c =
    subst (λ rows. IsTrue (has_number rows c.args.number)) (sym c.deref.ensures.value)
    (left-has c.self.inside.rows.items c.self.inside.gone.items c.args.number (subst (λ rows. IsTrue (has_number rows c.args.number)) (sym c.self.view_is) c.requires.there))

pub returns-clause-ok : goal.returns-clause-ok
returns-clause-ok c =
    let marks : length c.deref.result.now ≤ length c.mark_up_to.new.gone.items = omega (arith, c.self.inside.rows.ok.0, ap length c.deref.ensures.value, c.in_ok-mark_up_to.ensures.marked) in
    row-removed c.args.self.now c.self.inside.rows.items c.deref.result.now c.self.inside.gone.items c.mark_up_to.new.gone.items c.find-at.result c.args.number c.self.view_is (c.in_ok-mark_up_to.ensures.same c.self.inside.rows.items) c.deref.ensures.value
    c.self.invariant c.find-at.ensures.within marks c.find-at.ensures.found
