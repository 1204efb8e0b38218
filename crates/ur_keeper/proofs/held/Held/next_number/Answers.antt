use Rattle.std.proofs.Common.{pos, ◌<ℤ◌, ◌≡◌, subst, sym, ◌∙◌, arith}
use Rattle.std.proofs.lemmas.Int.{ints, to_z-of_z}
use Rattle.ur_keeper.proofs.Edits.{number-of, drawn-in}
use Rattle.ur_keeper.specs.Tables.{sequence_at}
use Rattle.ur_keeper.proofs.held.Held.next_number.Goals as goal

pub draw-requires : goal.draw-requires
draw-requires c =
    subst (λ k. k <ℤ pos 9223372036854775807)
    (sym (number-of c.self.inside.tables.items c.self.inside.sequences.items c.args.sequence c.index_mut.result.now c.args.self.now c.self.view_is c.requires.sequence c.index_mut.ensures.value))
    c.requires.room

pub returns-clause-number : goal.returns-clause-number
returns-clause-number c =
    let number : c.draw.result ≡ sequence_at c.args.self.now.current c.args.sequence =
    c.draw.ensures.number
    ∙ number-of c.self.inside.tables.items c.self.inside.sequences.items c.args.sequence c.index_mut.result.now c.args.self.now c.self.view_is c.requires.sequence c.index_mut.ensures.value in
    grind (arith, ints, to_z-of_z, number)

pub returns-clause-drawn : goal.returns-clause-drawn
returns-clause-drawn c =
    drawn-in c.self.inside.tables.items c.self.inside.sequences.items c.args.sequence c.index_mut.result.now c.draw.new.self c.args.self.now c.self.view_is c.requires.sequence c.index_mut.ensures.value c.draw.ensures.drawn
