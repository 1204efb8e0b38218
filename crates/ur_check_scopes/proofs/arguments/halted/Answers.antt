use Rattle.std.proofs.Common.{[]}
use Rattle.ur_check_scopes.proofs.Giving.{stops-by}
use Rattle.ur_check_scopes.proofs.arguments.halted.Goals as goal

pub returns-in-TooLarge : goal.returns-in-TooLarge
returns-in-TooLarge c = stops-by c.args.halt c.too_large.result c.in-TooLarge.is (c.too_large.ensures [])
