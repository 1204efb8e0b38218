use Rattle.std.proofs.Common.{◌∙◌}
use Rattle.ur_check_scopes.proofs.Exits.{ok-along}
use Rattle.ur_check_rules.proofs.Trees.{unary-made}
use Rattle.ur_check_rules.proofs.made.unary_of.Goals as goal

pub returns : goal.returns
returns c = ok-along c.new.result (λ x h. h ∙ unary-made c.args.op c.args.e) c.new.ensures
