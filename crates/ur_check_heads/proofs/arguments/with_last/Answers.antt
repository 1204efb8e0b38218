use Rattle.ur_check_heads.proofs.Forming.{in-path, by-form}
use Rattle.ur_check_heads.proofs.arguments.with_last.Goals as goal

pub returns-in_ok-form-in-None : goal.returns-in_ok-form-in-None
returns-in_ok-form-in-None c = by-form c.args.names.now c.args.params c.args.last.now.of c.in_ok-form-in-None.form c.in_ok-form-in-None.ensures
