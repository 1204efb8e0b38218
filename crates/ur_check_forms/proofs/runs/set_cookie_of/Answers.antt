use Rattle.std.proofs.Common.{◌∙◌}
use Rattle.ur_check_scopes.proofs.Exits.{ok-along}
use Rattle.ur_check_forms.proofs.Trees.{set-cookie-made}
use Rattle.ur_check_forms.proofs.runs.set_cookie_of.Goals as goal

pub returns : goal.returns
returns c = ok-along c.new.result (λ x h. h ∙ set-cookie-made c.args.number c.args.value) c.new.ensures
