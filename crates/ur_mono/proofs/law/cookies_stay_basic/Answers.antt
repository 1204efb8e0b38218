-- The cookies of code are those of the source.
use Rattle.ur_mono.proofs.Cookies.{stay_basic}
use Rattle.ur_mono.proofs.law.cookies_stay_basic.Goals as goal

pub returns : goal.returns
returns c = stay_basic
