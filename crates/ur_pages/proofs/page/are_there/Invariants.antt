use Rattle.std.proofs.Common.{◌≡◌, drop, map}
use Rattle.ur_pages.specs.Pages.{are_there, read_ask}
use Rattle.ur_pages.proofs.page.are_there.Given as goal

abbrev pub invariant-loop-ask : goal.invariant-loop-ask
invariant-loop-ask l = are_there l.cache.entries (map read_ask (drop l.ask-index l.asks)) ≡ are_there l.cache.entries (map read_ask l.asks)
