use Rattle.std.proofs.Common.{sym, subst}
use Rattle.ur_cacheindex.specs.Lists.{TidiesHead}
use Rattle.ur_cacheindex.proofs.Listing.{tidied_removed, tidied_written}
use Rattle.ur_cacheindex.proofs.Filling.{gone_absent, gone_written, gone_removed}
use Rattle.ur_cacheindex.proofs.heads.Heads.tidy.Goals as goal

pub returns-then-is_empty-clause-same : goal.returns-then-is_empty-clause-same
returns-then-is_empty-clause-same c =
    let mid = record c.args.self.now { places = c.get_mut.follows.lender c.tidy_among.new.atoms } in
    let new = record c.args.self.now { places = c.remove.new.self } in
    tidied_removed c.args.self.now c.args.site c.args.slot mid new c.in-Some.atoms.now c.tidy_among.new.atoms c.in-Some.ensures.value
    (c.get_mut.follows.holds c.tidy_among.new.atoms) c.tidy_among.ensures.same (c.is_empty.ensures.0 c.if-is_empty.true) c.remove.ensures.updates

pub returns-else-is_empty-clause-same : goal.returns-else-is_empty-clause-same
returns-else-is_empty-clause-same c =
    let new = record c.args.self.now { places = c.get_mut.follows.lender c.tidy_among.new.atoms } in
    tidied_written c.args.self.now c.args.site c.args.slot new c.in-Some.atoms.now c.tidy_among.new.atoms c.in-Some.ensures.value (c.get_mut.follows.holds c.tidy_among.new.atoms) c.tidy_among.ensures.same

pub returns-in-None-clause-gone : goal.returns-in-None-clause-gone
returns-in-None-clause-gone c =
    subst (λ m. TidiesHead c.args.site c.args.slot c.args.atom.now c.args.self.now (record c.args.self.now { places = m })) (sym c.get_mut.follows.holds-at-none)
    (gone_absent c.args.self.now c.args.site c.args.slot c.args.atom.now c.in-None.ensures.value)

pub returns-then-is_empty-clause-gone : goal.returns-then-is_empty-clause-gone
returns-then-is_empty-clause-gone c =
    let mid = record c.args.self.now { places = c.get_mut.follows.lender c.tidy_among.new.atoms } in
    let new = record c.args.self.now { places = c.remove.new.self } in
    gone_removed c.args.self.now c.args.site c.args.slot c.args.atom.now mid new c.in-Some.atoms.now c.tidy_among.new.atoms c.in-Some.ensures.value (c.get_mut.follows.holds c.tidy_among.new.atoms) c.remove.ensures.updates

pub returns-else-is_empty-clause-gone : goal.returns-else-is_empty-clause-gone
returns-else-is_empty-clause-gone c =
    let new = record c.args.self.now { places = c.get_mut.follows.lender c.tidy_among.new.atoms } in
    gone_written c.args.self.now c.args.site c.args.slot c.args.atom.now new c.in-Some.atoms.now c.tidy_among.new.atoms c.in-Some.ensures.value (c.get_mut.follows.holds c.tidy_among.new.atoms) c.tidy_among.ensures.gone
