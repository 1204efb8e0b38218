use Rattle.std.proofs.Common.{drop}
use Rattle.ur_kinds.specs.Acts.{acts}
use Rattle.ur_kinds.specs.KindedFaults.{start}
use Rattle.ur_kinds.proofs.Searching.{Leads}
use Rattle.ur_kinds.proofs.search.find.Given as goal

abbrev pub invariant-loop-i : goal.invariant-loop-i
invariant-loop-i l = Leads start (acts l.events) l.state (acts (drop l.i l.events))
