use Rattle.std.proofs.Common.{◌∙◌}
use Rattle.ur_check_scopes.proofs.Exits.{ok-along}
use Rattle.ur_check_rules.proofs.Trees.{let-made}
use Rattle.ur_check_rules.proofs.made.let_of.Goals as goal

pub returns : goal.returns
returns c = ok-along c.new.result (λ x h. h ∙ let-made c.args.of c.args.e c.args.body) c.new.ensures
