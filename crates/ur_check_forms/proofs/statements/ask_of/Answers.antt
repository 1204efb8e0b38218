use Rattle.std.proofs.Common.{◌∙◌}
use Rattle.ur_check_scopes.proofs.Exits.{ok-along}
use Rattle.ur_check_forms.proofs.Trees.{ask-made}
use Rattle.ur_check_forms.proofs.statements.ask_of.Goals as goal

pub returns : goal.returns
returns c = ok-along c.new.result (λ x h. h ∙ ask-made c.args.how c.args.at c.args.args) c.new.ensures
