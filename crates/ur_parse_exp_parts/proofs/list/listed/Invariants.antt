use Rattle.std.proofs.Common.{◌≡◌, length}
use Rattle.ur_parse_exp_parts.specs.Lists.{listed}
use Rattle.ur_parse_exp_parts.proofs.list.listed.Given as goal

abbrev pub invariant-pieces : goal.invariant-pieces
invariant-pieces l = record {
  tree : listed l.left l.covered l.right.tree ≡ listed l.initial.left l.covered l.initial.right.tree;
  end : l.right.end ≡ l.initial.right.end;
}

abbrev pub decreases-pieces : goal.decreases-pieces
decreases-pieces l = length l.left
