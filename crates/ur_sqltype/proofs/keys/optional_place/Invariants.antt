-- No column so far is optional.
use Rattle.std.proofs.Common.{take}
use Rattle.ur_sqltype.specs.Table.{HasNoOption}
use Rattle.ur_sqltype.proofs.keys.optional_place.Given as goal

abbrev pub invariant-loop-place : goal.invariant-loop-place
invariant-loop-place l = HasNoOption l.columns (take l.place-index l.places)
