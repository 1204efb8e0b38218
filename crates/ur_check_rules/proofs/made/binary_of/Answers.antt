use Rattle.std.proofs.Common.{◌∙◌}
use Rattle.ur_check_scopes.proofs.Exits.{ok-along}
use Rattle.ur_check_rules.proofs.Trees.{binary-made}
use Rattle.ur_check_rules.proofs.made.binary_of.Goals as goal

pub returns : goal.returns
returns c = ok-along c.new.result (λ x h. h ∙ binary-made c.args.op c.args.a c.args.b) c.new.ensures
