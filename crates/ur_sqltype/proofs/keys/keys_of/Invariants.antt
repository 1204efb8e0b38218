use Rattle.std.proofs.Common.{◌≡◌, drop, nat_eq}
use Rattle.std.specs.Prelude.{All}
use Rattle.std.specs.List.{IsDistinct}
use Rattle.ur_sqltype.specs.Lists.{behind, all_of}
use Rattle.ur_sqltype.specs.Table.{key_of, HasNoOption}
use Rattle.ur_sqltype.proofs.keys.keys_of.Given as goal

abbrev pub invariant-loop-i : goal.invariant-loop-i
invariant-loop-i l = record {
  so_far : all_of (key_of l.columns) l.keys ≡ behind l.made (all_of (key_of l.columns) (drop l.i l.keys));
  once : All (IsDistinct nat_eq) l.made;
  plain : All (HasNoOption l.columns) l.made;
}
