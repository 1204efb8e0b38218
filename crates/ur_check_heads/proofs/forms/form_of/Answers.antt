use Rattle.ur_check_heads.proofs.Forming.{form-along}
use Rattle.ur_check_heads.proofs.forms.form_of.Goals as goal

pub returns-in_ok-form-in-Record : goal.returns-in_ok-form-in-Record
returns-in_ok-form-in-Record c = form-along c.args.names.now c.in-Record.row c.args.of.now c.in_ok-form-in-Record.form c.in-Record.is c.in_ok-form-in-Record.ensures
