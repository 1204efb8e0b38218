use Rattle.std.proofs.Common.{sym, ◌∙◌}
use Rattle.ur_check_scopes.proofs.Searching.{leads-start, leads-past, leads-here, leads-end}
use Rattle.ur_check_scopes.proofs.locals.in_binder.Goals as goal

pub loop-first-init : goal.loop-first-init
loop-first-init c = leads-start c.args.name.now c.args.before c.args.hidden c.args.locals.now

pub returns-then-is_named : goal.returns-then-is_named
returns-then-is_named c =
    leads-here c.args.name.now c.args.before c.args.hidden c.args.locals.now c.loop-first.counts c.loop-first.left.now c.in-Some.rest.now c.in-Some.first.now c.place_of.result
    c.in-Some.ensures.cases.0 (sym c.is_named.ensures ∙ c.if-is_named.true) c.place_of.ensures c.loop-first.invariant

pub loop-first-preserved : goal.loop-first-preserved
loop-first-preserved c =
    leads-past c.args.name.now c.args.before c.args.hidden c.args.locals.now c.loop-first.counts c.in_ok-counts.counts c.loop-first.left.now c.in-Some.rest.now c.in-Some.first.now
    c.in-Some.ensures.cases.0 (sym c.is_named.ensures ∙ c.if-is_named.false) c.in_ok-counts.ensures c.loop-first.invariant

pub returns : goal.returns
returns c = leads-end c.args.name.now c.args.before c.args.hidden c.args.locals.now c.loop-first.counts c.loop-first.left.now c.in_default.ensures.cases c.loop-first.invariant
