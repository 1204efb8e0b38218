use Rattle.std.proofs.Common.{◌∙◌}
use Rattle.ur_check_scopes.proofs.Exits.{ok-along}
use Rattle.ur_check_rules.proofs.Trees.{fold-made}
use Rattle.ur_check_rules.proofs.made.fold_of.Goals as goal

pub returns : goal.returns
returns c = ok-along c.new.result (λ x h. h ∙ fold-made c.args.of c.args.acc c.args.step c.args.start c.args.row) c.new.ensures
