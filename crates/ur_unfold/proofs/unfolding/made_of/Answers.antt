use Rattle.std.proofs.Common.{subst}
use Rattle.ur_unfold_pieces.specs.Standing.{instances_in}
use Rattle.ur_unfold.specs.Making.{Ended}
use Rattle.ur_unfold.proofs.Rooting.{ended}
use Rattle.ur_unfold.specs.declared.unfolding.Made.{Made}
use Rattle.ur_unfold.proofs.Refusing.{stopped}
use Rattle.ur_unfold.proofs.unfolding.made_of.Goals as goal

pub made_by-requires : goal.made_by-requires
made_by-requires c =
    subst (Ended c.args.typed.now (instances_in c.all_terms.new.table.of)) c.in-Ok.is
    (ended c.args.typed.now c.in_ok-of.of (instances_in c.all_terms.new.table.of) c.all_terms.result c.in_ok-of.ensures.source c.in_ok-of.ensures.whole c.in_ok-of.ensures.roots c.each_once.ensures.cons c.each_once.ensures.statics c.all_terms.ensures.made)

pub returns-clause-refused : goal.returns-clause-refused
returns-clause-refused c =
    stopped c.args.typed.now Made c.stop_of.result (c.stop_of.ensures
    (subst (Ended c.args.typed.now (instances_in c.all_terms.new.table.of)) c.in-Err.is
    (ended c.args.typed.now c.in_ok-of.of (instances_in c.all_terms.new.table.of) c.all_terms.result c.in_ok-of.ensures.source c.in_ok-of.ensures.whole c.in_ok-of.ensures.roots c.each_once.ensures.cons c.each_once.ensures.statics c.all_terms.ensures.made)))
