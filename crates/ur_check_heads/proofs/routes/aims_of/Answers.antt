use Rattle.std.proofs.Common.{subst, sym, ◌++◌}
use Rattle.ur_typed.specs.Typed.{all_occurrences}
use Rattle.ur_check_heads.specs.Aims.{AreAims}
use Rattle.ur_check_heads.proofs.Aiming.{aims-are}
use Rattle.ur_check_heads.proofs.routes.aims_of.Goals as goal

pub returns : goal.returns
returns c =
    subst (AreAims c.args.entries.now (all_occurrences (c.args.vals.now ++ c.args.bodies.now))) (sym c.in_ok-of.ensures.of)
    (aims-are c.args.functions.now c.args.entries.now c.args.vals.now c.args.bodies.now c.in_ok-aims.aims c.mark_all.new.aims c.in_exps.new.aims c.in_exps-2.new.aims c.in_ok-aims.ensures.of c.mark_all.ensures c.in_exps.ensures c.in_exps-2.ensures c.in_ok-of.ensures.kept)
