use Rattle.std.proofs.Common.{sym}
use Rattle.ur_meaning.proofs.Going.{first_stands}
use Rattle.ur_meaning.proofs.terms.only_part.Goals as goal

pub returns-in-Some-clause-form : goal.returns-in-Some-clause-form
returns-in-Some-clause-form g c =
    λ i h. c.form.ensures.form i (first_stands (g.T.Table.stands c.args.table.now) c.args.opened.now.parts i c.in-Some.piece.now h (sym c.in-Some.ensures.value))
