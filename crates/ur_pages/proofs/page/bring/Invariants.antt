use Rattle.std.proofs.Common.{◌≡◌, drop, map}
use Rattle.ur_pages.specs.Pages.{brought, read_ask}
use Rattle.ur_pages.proofs.page.bring.Given as goal

abbrev pub invariant-loop-ask : goal.invariant-loop-ask
invariant-loop-ask l = brought (map read_ask (drop l.ask-index l.asks)) l.cache ≡ brought (map read_ask l.asks) l.fn.cache
