use Rattle.ur_check_scopes.proofs.Exits.{ok-along}
use Rattle.ur_check_walk.proofs.Linking.{submitted-as}
use Rattle.ur_check_walk.proofs.targets.submitted.Goals as goal

pub returns-in-Some : goal.returns-in-Some
returns-in-Some c = ok-along c.submit_mark.result (λ m h. submitted-as c.args.target c.in-Some.wanted c.args.args c.args.held m c.in-Some.is h) c.submit_mark.ensures
