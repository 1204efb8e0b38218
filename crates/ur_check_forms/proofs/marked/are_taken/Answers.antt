use Rattle.ur_check_scopes.proofs.Exits.{refused-exit}
use Rattle.ur_check_forms.proofs.Marking.{not-taken-told}
use Rattle.ur_check_forms.proofs.marked.are_taken.Goals as goal

pub returns-in_err-is_taken-clause-refused : goal.returns-in_err-is_taken-clause-refused
returns-in_err-is_taken-clause-refused c =
    refused-exit c.from_residual.result c.in_err-is_taken.field-0.0 c.from_residual.ensures.1
    (λ r h. not-taken-told c.args.around.now.world.now.datatype_names c.args.whole.now c.args.waiting.now c.loop-i.i c.index-waiting-i.result r c.loop-i-test.true c.index-waiting-i.is h) c.in_err-is_taken.ensures.refused
