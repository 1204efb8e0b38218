use Rattle.ur_tags.proofs.Owning.{read_fits}
use Rattle.ur_tags.proofs.segments.unsegment.Goals as goal

pub returns-clause-own : goal.returns-clause-own
returns-clause-own c = read_fits c.args.kind c.args.text.now c.read.result c.read.ensures
