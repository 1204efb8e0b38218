-- The file of a number.
use Rattle.ur_load.proofs.Numbers.{at_zero, at_none, at_file}
use Rattle.ur_load.proofs.loaded.file_at.Goals as goal

pub returns-in-None : goal.returns-in-None
returns-in-None c = at_zero c.args.loaded.now c.args.number c.in-None.ensures

pub returns-in-None-get : goal.returns-in-None-get
returns-in-None-get c = at_none c.args.loaded.now c.args.number c.in-Some.place c.in-Some.ensures.0 c.in-Some.ensures.1 c.in-None-get.ensures.value

pub returns-in-Some-get : goal.returns-in-Some-get
returns-in-Some-get c = at_file c.args.loaded.now c.args.number c.in-Some.place c.in-Some-get.file.now c.in-Some.ensures.0 c.in-Some.ensures.1 c.in-Some-get.ensures.value
