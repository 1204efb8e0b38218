use Rattle.std.proofs.Common.{◌-◌, length}
use Rattle.ur_parse_rules.specs.Places.{Moves}
use Rattle.ur_parse_exp_parts.proofs.Heads.{Params}
use Rattle.ur_parse_exp_parts.proofs.params.read_params.Given as goal

abbrev pub invariant-params : goal.invariant-params
invariant-params l = record {
  moves : Moves l.tokens l.at l.end;
  params : Params l.depth l.tokens l.at l.end l.list;
}

abbrev pub decreases-params : goal.decreases-params
decreases-params l = length l.tokens - l.end
