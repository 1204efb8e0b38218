use Rattle.std.proofs.Common.{◌∙◌}
use Rattle.ur_check_scopes.proofs.Exits.{ok-along}
use Rattle.ur_check_rules.proofs.Trees.{lambda-made}
use Rattle.ur_check_rules.proofs.made.lambda_of.Goals as goal

pub returns : goal.returns
returns c = ok-along c.new.result (λ x h. h ∙ lambda-made c.args.params c.args.body) c.new.ensures
