use Rattle.std.proofs.Common.{sym}
use Rattle.ur_xmltype.specs.Faults.{twice}
use Rattle.ur_xmltype.proofs.nodes.node_at.Goals as goal

pub returns-in_ok-twice-in-Some-clause-refused : goal.returns-in_ok-twice-in-Some-clause-refused
returns-in_ok-twice-in-Some-clause-refused c = twice (sym c.in-Some.ensures) c.in_ok-twice-in-Some.ensures
