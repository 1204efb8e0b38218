use Rattle.std.proofs.Common.{◌-◌, length}
use Rattle.ur_parse_rules.specs.Places.{Moves}
use Rattle.ur_parse_exp_parts.proofs.Dotted.{Dotted}
use Rattle.ur_parse_exp_parts.proofs.dots.read_dots.Given as goal

abbrev pub invariant-dots : goal.invariant-dots
invariant-dots l = record {
  moves : Moves l.tokens l.from l.whole.end;
  dotted : Dotted l.tokens l.from l.initial.whole.end l.whole.end l.initial.whole.tree l.whole.tree;
}

abbrev pub decreases-dots : goal.decreases-dots
decreases-dots l = length l.tokens - l.whole.end
