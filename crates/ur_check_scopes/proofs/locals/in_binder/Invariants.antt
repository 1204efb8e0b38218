use Rattle.std.proofs.Common.{length}
use Rattle.ur_check_scopes.proofs.Searching.{Leads}
use Rattle.ur_check_scopes.proofs.locals.in_binder.Given as goal

abbrev pub invariant-loop-first : goal.invariant-loop-first
invariant-loop-first l = Leads l.name l.fn.before l.hidden l.locals l.counts l.left

abbrev pub decreases-loop-first : goal.decreases-loop-first
decreases-loop-first l = length l.left
