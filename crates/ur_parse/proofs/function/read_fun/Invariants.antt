use Rattle.std.proofs.Common.{◌-◌, length}
use Rattle.ur_parse_rules.specs.Places.{Moves}
use Rattle.ur_parse.proofs.Functions.{FunRead}
use Rattle.ur_parse.proofs.function.read_fun.Given as goal

abbrev pub invariant-ands : goal.invariant-ands
invariant-ands l = record { moves : Moves l.tokens l.at l.end; read : FunRead l.depth l.tokens l.at l.end l.list }

abbrev pub decreases-ands : goal.decreases-ands
decreases-ands l = length l.tokens - l.end
