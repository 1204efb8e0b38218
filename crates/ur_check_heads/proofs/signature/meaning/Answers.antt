use Rattle.ur_check_heads.proofs.RoutesEntering.{meaning-is}
use Rattle.ur_check_heads.proofs.signature.meaning.Goals as goal

pub returns : goal.returns
returns c = meaning-is c.args.project.now c.as_slice-home.result.now c.as_slice.result.now c.args.name.now c.seen.result c.seen.ensures c.as_slice-home.ensures c.as_slice.ensures
