use Rattle.ur_check_scopes.proofs.Exits.{ok-along}
use Rattle.ur_check_walk.proofs.Linking.{link-marked}
use Rattle.ur_check_walk.proofs.targets.link_mark.Goals as goal

pub returns : goal.returns
returns c = ok-along c.mark_of.result (λ m h. link-marked c.args.inner c.args.number c.args.args m h) c.mark_of.ensures
