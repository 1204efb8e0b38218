use Rattle.std.proofs.Common.{refl, ap, ◌∙◌}
use Rattle.ur_values.specs.Atom.{atom_values}
use Rattle.ur_machine.proofs.Reading.{are_atomic, looked_at_key, held_at_key, looked_leaves, finds_hit}
use Rattle.ur_machine.proofs.queries.rows_at.Goals as goal

pub atoms_of-requires : goal.atoms_of-requires
atoms_of-requires g c = are_atomic c.args.key.now c.requires.takes.query.params c.requires.takes.fits

pub returns-in_err-held-clause-answers : goal.returns-in_err-held-clause-answers
returns-in_err-held-clause-answers g c =
    looked_leaves c.args.code.now _ _ c.args.cache.now c.held_rows.new.cache c.args.site c.args.key.now _ c.requires.takes c.requires.saved c.requires.current
    (looked_at_key _ _ c.args.site _ c.args.key.now (ap atom_values c.as_slice.ensures ∙ c.in_ok-atoms.ensures) c.held_rows.ensures.front)

pub returns-in-Some-clause-finds : goal.returns-in-Some-clause-finds
returns-in-Some-clause-finds g c =
    let same = ap atom_values c.as_slice.ensures ∙ c.in_ok-atoms.ensures in
    finds_hit c.args.code.now c.args.patterns.now c.args.site c.args.key.now c.requires.takes _ _ _ _ _ _ _ _ _ c.args.cache.now c.held_rows.new.cache c.in-Some.rows c.requires.saved c.requires.current
    (looked_at_key _ _ c.args.site _ c.args.key.now same c.held_rows.ensures.front) (held_at_key c.args.cache.now c.args.site _ c.args.key.now c.in-Some.rows c.in_ok-held.held same c.in_ok-held.ensures.rows c.in-Some.is)
    refl refl (record { same_saved = refl; same_kept = refl; goes_on = c.requires.under_way })

pub returns-in-Some-clause-answers : goal.returns-in-Some-clause-answers
returns-in-Some-clause-answers g c =
    looked_leaves c.args.code.now _ _ c.args.cache.now c.held_rows.new.cache c.args.site c.args.key.now _ c.requires.takes c.requires.saved c.requires.current
    (looked_at_key _ _ c.args.site _ c.args.key.now (ap atom_values c.as_slice.ensures ∙ c.in_ok-atoms.ensures) c.held_rows.ensures.front)
