-- The columns of the items so far.
use Rattle.std.proofs.Common.{◌≡◌, take}
use Rattle.ur_verify.specs.Scope.{columns_of}
use Rattle.ur_verify.proofs.columns.columns_of.Given as goal

abbrev pub invariant-loop-item : goal.invariant-loop-item
invariant-loop-item l = l.columns ≡ columns_of (take l.item-index l.from)
