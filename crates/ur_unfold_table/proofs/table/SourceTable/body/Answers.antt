use Rattle.ur_unfold_pieces.proofs.Staying.{whole_stays}
use Rattle.ur_unfold_pieces.specs.Standing.{language}
use Rattle.ur_unfold_table.proofs.Tabled.{embodied, same_instances, body_lasts}
use Rattle.ur_unfold_table.proofs.table.SourceTable.body.Goals as goal

pub returns-clause-body : goal.returns-clause-body
returns-clause-body c = λ k e whole. embodied (language c.args.self.now.of.typed.now) c.body_of.new.table k c.body_of.result (whole_stays c.args.self.now.of c.body_of.new.table c.body_of.ensures.stays whole) (c.body_of.ensures.body k e whole)

pub returns-clause-numbered : goal.returns-clause-numbered
returns-clause-numbered c = same_instances c.args.self.now.of c.body_of.new.table c.body_of.ensures.closing c.body_of.ensures.stays.keys

pub returns-clause-lasts : goal.returns-clause-lasts
returns-clause-lasts c = body_lasts c.args.self.now _ c.body_of.ensures.stays
