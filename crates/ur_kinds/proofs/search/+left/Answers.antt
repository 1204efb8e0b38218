use Rattle.std.proofs.Common.{ap, ◌∙◌}
use Rattle.std.specs.Option.{option_map}
use Rattle.ur_kinds.specs.KindedFaults.{behind_first}
use Rattle.ur_kinds.proofs.Heads.{left-applied}
use Rattle.ur_kinds.proofs.search.+left.Goals as goal

pub returns-in-ConApp : goal.returns-in-ConApp
returns-in-ConApp t c = left-applied c.args.state.now c.in-ConApp.is c.get.ensures (c.behind_first.ensures ∙ ap (option_map behind_first) c.left.ensures)
