use Rattle.std.proofs.Common.{refl}
use Rattle.ur_check_heads.proofs.Forming.{climbs-rise}
use Rattle.ur_check_heads.proofs.forms.are_rising.Goals as goal

pub returns : goal.returns
returns c = (λ t. climbs-rise c.args.form.now c.loop-i.i c.loop-i-test.false c.loop-i.invariant, λ h. refl)
