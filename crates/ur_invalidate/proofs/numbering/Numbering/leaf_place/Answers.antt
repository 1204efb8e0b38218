use Rattle.std.proofs.Common.{refl}
use Rattle.ur_invalidate.proofs.Leaves.{leaf_decides}
use Rattle.ur_invalidate.proofs.Places.{inserted_grows, inserted_place}
use Rattle.ur_invalidate.specs.Numbers.{leaf_eq}
use Rattle.ur_invalidate.proofs.numbering.Numbering.leaf_place.Goals as goal

pub returns : goal.returns
returns c = record {
  leaves = inserted_grows (leaf_eq c.args.leaf) c.args.self.now.leaves.keys c.insert_full.new.self.keys c.args.leaf c.in_ok-place.ensures.keys;
  placed = inserted_place (leaf_eq c.args.leaf) c.args.self.now.leaves.keys c.insert_full.new.self.keys c.args.leaf c.in_ok-place.place ((leaf_decides c.args.leaf c.args.leaf).1 refl) c.in_ok-place.ensures.keys c.in_ok-place.ensures.index;
  closure = refl;
  constants = refl;
}
