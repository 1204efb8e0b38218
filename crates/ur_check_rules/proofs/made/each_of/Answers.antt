use Rattle.std.proofs.Common.{◌∙◌}
use Rattle.ur_check_scopes.proofs.Exits.{ok-along}
use Rattle.ur_check_rules.proofs.Trees.{each-made}
use Rattle.ur_check_rules.proofs.made.each_of.Goals as goal

pub returns : goal.returns
returns c = ok-along c.new.result (λ x h. h ∙ each-made c.args.number c.args.args c.args.body) c.new.ensures
