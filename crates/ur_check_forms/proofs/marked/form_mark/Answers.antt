use Rattle.ur_check_scopes.proofs.Exits.{ok-along}
use Rattle.ur_check_forms.proofs.Marking.{form-marked}
use Rattle.ur_check_forms.proofs.marked.form_mark.Goals as goal

pub returns : goal.returns
returns c = ok-along c.mark_of.result (λ m h. form-marked c.new-row.result c.new-waiting.result c.args.marks m c.new-row.ensures c.new-waiting.ensures h) c.mark_of.ensures
