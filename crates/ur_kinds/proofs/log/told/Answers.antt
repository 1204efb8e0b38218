use Rattle.ur_kinds.specs.Acts.{acts}
use Rattle.ur_kinds.proofs.Pieces.{nothing, none-at}
use Rattle.ur_kinds.proofs.log.told.Goals as goal

pub returns-else-n-all : goal.returns-else-n-all
returns-else-n-all c = nothing (acts c.args.out.now) _ (none-at c.args.all.now c.args.n c.if-n-all.false)
