use Rattle.std.proofs.Common.{◌≡◌, drop, map}
use Rattle.ur_pages.specs.Pages.{some_masked, read_ask}
use Rattle.ur_pages.proofs.page.some_masked.Given as goal

abbrev pub invariant-loop-ask : goal.invariant-loop-ask
invariant-loop-ask l = some_masked l.cache.masks (map read_ask (drop l.ask-index l.asks)) ≡ some_masked l.cache.masks (map read_ask l.asks)
