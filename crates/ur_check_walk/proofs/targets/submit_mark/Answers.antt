use Rattle.ur_check_scopes.proofs.Exits.{ok-along}
use Rattle.ur_check_forms.specs.Views.{records_in}
use Rattle.ur_check_walk.proofs.Linking.{submit-marked}
use Rattle.ur_check_walk.proofs.targets.submit_mark.Goals as goal

pub returns : goal.returns
returns c = ok-along c.mark_of.result (λ m h. submit-marked c.new-row.result (records_in c.in_ok-waiting.waiting) c.args.wanted c.args.number c.args.args c.args.held m c.new-row.ensures c.in_ok-waiting.ensures h) c.mark_of.ensures
