use Rattle.ur_check_forms.proofs.Same.{same-told}
use Rattle.ur_check_forms.proofs.marked.same.Goals as goal

pub returns : goal.returns
returns c = same-told c.equal_types.result c.args.a.now c.args.b.now c.equal_types.ensures
