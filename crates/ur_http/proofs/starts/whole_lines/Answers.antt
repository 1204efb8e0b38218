use Rattle.std.proofs.Common.{◌∙◌, sym}
use Rattle.ur_http.proofs.Begun.{last_yes, last_no}
use Rattle.ur_http.proofs.starts.whole_lines.Goals as goal

pub loop-last-preserved : goal.loop-last-preserved
loop-last-preserved c = last_no c.loop-last.left.now c.in-Some.rest.now c.in-Some.last.now c.in-Some.ensures.cases.0 c.if-last-eq10.false ∙ c.loop-last.invariant

pub returns-then-last-eq10 : goal.returns-then-last-eq10
returns-then-last-eq10 c = sym (last_yes c.loop-last.left.now c.in-Some.rest.now c.in-Some.last.now c.in-Some.ensures.cases.0 c.if-last-eq10.true) ∙ c.loop-last.invariant
