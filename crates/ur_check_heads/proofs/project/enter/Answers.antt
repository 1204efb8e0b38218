use Rattle.ur_check_heads.proofs.Entering.{homes-seen}
use Rattle.ur_check_heads.proofs.project.enter.Goals as goal

pub returns : goal.returns
returns c = homes-seen c.args.project.now c.in_ok-home.home c.in_ok-of_names.of_names c.args.name.now c.args.number c.in_ok-home.ensures c.in_ok-of_names.ensures
