-- Why the files spell no trees.
use Rattle.ur_load.proofs.Found.{sources_refused}
use Rattle.ur_load.proofs.loading.load_spelled.Goals as goal

pub returns-in-Ok-clause-refused : goal.returns-in-Ok-clause-refused
returns-in-Ok-clause-refused g c = sources_refused (g.S.Shelf.told c.args.shelf.now) c.args.project.now c.in-Ok.sources c.with_trees.result c.in-Ok.ensures.sources c.with_trees.ensures.refused
