use Rattle.ur_keeper.proofs.Attaching.{low-numbers, high-numbers}
use Rattle.ur_keeper.proofs.held.Held.has_low_numbers.Goals as goal

pub returns-then-have_low_numbers : goal.returns-then-have_low_numbers
returns-then-have_low_numbers c =
    low-numbers c.self.inside.tables.items c.self.inside.sequences.items c.args.self.now c.have_low_numbers.result c.are_low.result c.self.view_is c.have_low_numbers.ensures c.are_low.ensures c.if-have_low_numbers.true

pub returns-else-have_low_numbers : goal.returns-else-have_low_numbers
returns-else-have_low_numbers c =
    high-numbers c.self.inside.tables.items c.self.inside.sequences.items c.args.self.now c.have_low_numbers.result c.self.view_is c.have_low_numbers.ensures c.if-have_low_numbers.false
