use Rattle.std.proofs.Common.{◌-◌, length}
use Rattle.ur_parse_con.specs.Forms.{Stays}
use Rattle.ur_parse.proofs.Params.{ConParamsRead}
use Rattle.ur_parse.proofs.definition.read_con_params.Given as goal

abbrev pub invariant-params : goal.invariant-params
invariant-params l = record { stays : Stays l.tokens l.at l.end; read : ConParamsRead l.depth l.tokens l.at l.end l.list }

abbrev pub decreases-params : goal.decreases-params
decreases-params l = length l.tokens - l.end
