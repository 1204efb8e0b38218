use Rattle.std.proofs.Common.{IsTrue, sym, subst}
use Rattle.ur_values.specs.Numbered.{has_number}
use Rattle.ur_keeper.proofs.Drafts.{left-has, row-put, set-rises}
use Rattle.ur_keeper.proofs.draft.Draft.replace.Goals as goal

pub find-at-requires-clause-there : goal.find-at-requires-clause-there
find-at-requires-clause-there c =
    subst (λ rows. IsTrue (has_number rows c.args.number)) (sym c.deref.ensures.value)
    (left-has c.self.inside.rows.items c.self.inside.gone.items c.args.number (subst (λ rows. IsTrue (has_number rows c.args.number)) (sym c.self.view_is) c.requires.there))

pub invariant_of-self : goal.invariant_of-self
invariant_of-self c =
    set-rises c.self.inside.rows.items c.deref.result.now c.find-at.result c.args.number c.args.row c.deref.ensures.value c.self.invariant c.find-at.ensures.within c.find-at.ensures.found

pub returns : goal.returns
returns c =
    row-put c.args.self.now c.self.inside.rows.items c.deref.result.now c.self.inside.gone.items c.find-at.result c.args.number c.args.row c.self.view_is c.deref.ensures.value c.self.invariant c.find-at.ensures.within c.find-at.ensures.found
