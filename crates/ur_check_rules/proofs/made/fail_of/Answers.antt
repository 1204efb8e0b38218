use Rattle.std.proofs.Common.{◌∙◌}
use Rattle.ur_check_scopes.proofs.Exits.{ok-along}
use Rattle.ur_check_rules.proofs.Trees.{fail-made}
use Rattle.ur_check_rules.proofs.made.fail_of.Goals as goal

pub returns : goal.returns
returns c = ok-along c.new.result (λ x h. h ∙ fail-made c.args.of c.args.e) c.new.ensures
