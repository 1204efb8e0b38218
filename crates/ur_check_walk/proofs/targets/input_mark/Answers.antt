use Rattle.ur_check_scopes.proofs.Exits.{ok-along}
use Rattle.ur_check_walk.proofs.Linking.{input-marked}
use Rattle.ur_check_walk.proofs.targets.input_mark.Goals as goal

pub returns : goal.returns
returns c = ok-along c.mark_of.result (λ m h. input-marked c.in_ok-row.row c.new-waiting.result c.args.kind c.args.name c.in_ok-label.label c.args.held m c.in_ok-label.ensures c.in_ok-row.ensures c.new-waiting.ensures h) c.mark_of.ensures
