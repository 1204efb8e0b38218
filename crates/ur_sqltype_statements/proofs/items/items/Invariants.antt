use Rattle.std.proofs.Common.{◌≡◌, map, take}
use Rattle.ur_sqltype.specs.Query.{item_of}
use Rattle.ur_sqltype_statements.proofs.items.items.Given as goal

abbrev pub invariant-loop-source : goal.invariant-loop-source
invariant-loop-source l = l.items ≡ map item_of (take l.source-index l.sources)
