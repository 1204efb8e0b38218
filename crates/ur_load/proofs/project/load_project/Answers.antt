-- There are as many names as trees.
use Rattle.ur_load.proofs.Found.{named}
use Rattle.ur_load.proofs.project.load_project.Goals as goal

pub returns-in_ok-loaded_of-in-Ok-clause-named : goal.returns-in_ok-loaded_of-in-Ok-clause-named
returns-in_ok-loaded_of-in-Ok-clause-named g c = named c.args.project.now c.in-Ok.spelled.sources c.in_ok-loaded_of-in-Ok.field-0 c.in_ok-loaded_of-in-Ok.ensures
