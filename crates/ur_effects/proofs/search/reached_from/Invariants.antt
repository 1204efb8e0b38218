use Rattle.std.proofs.Common.{◌≡◌, fold, take}
use Rattle.ur_effects.specs.Search.{reached_by}
use Rattle.ur_effects.proofs.search.reached_from.Given as goal

abbrev pub invariant-loop-act : goal.invariant-loop-act
invariant-loop-act l = l.next ≡ fold (reached_by l.caller) l.fn.search (take l.act-index l.act-items)
