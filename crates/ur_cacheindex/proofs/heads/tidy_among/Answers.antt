use Rattle.std.proofs.Common.{sym, ap, ◌∙◌}
use Rattle.ur_cacheindex.proofs.Listing.{tidied_among, empty_is}
use Rattle.ur_cacheindex.proofs.Filling.{none_some, gone_among, stays_among}
use Rattle.ur_cacheindex.proofs.heads.tidy_among.Goals as goal

pub returns-then-head-eq0-clause-same : goal.returns-then-head-eq0-clause-same
returns-then-head-eq0-clause-same c =
    tidied_among c.args.atoms.now c.remove.new.self c.args.atom.now c.remove.ensures.updates (sym c.at_among-head.ensures ∙ empty_is c.at_among-head.result c.if-head-eq0.true c.in-None.is)

pub returns-then-head-eq0-clause-gone : goal.returns-then-head-eq0-clause-gone
returns-then-head-eq0-clause-gone c = gone_among c.args.atoms.now c.remove.new.self c.args.atom.now c.remove.ensures.updates

pub returns-else-head-eq0-clause-gone : goal.returns-else-head-eq0-clause-gone
returns-else-head-eq0-clause-gone c = stays_among c.args.atoms.now c.args.atom.now (λ e. c.if-head-eq0.false (ap (λ h. h.len) (c.at_among-head.ensures ∙ e)))

pub returns-in-Some-clause-gone : goal.returns-in-Some-clause-gone
returns-in-Some-clause-gone c =
    stays_among c.args.atoms.now c.args.atom.now (λ e. none_some _ (sym (ap (λ h. h.first) (c.at_among-head.ensures ∙ e)) ∙ c.in-Some.is))
