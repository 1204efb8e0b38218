use Rattle.ur_typed_laws.proofs.Led.{walk_is_led}
use Rattle.ur_typed_laws.proofs.leading_laws_law.walk_is_led.Goals as goal

pub returns : goal.returns
returns c = walk_is_led
