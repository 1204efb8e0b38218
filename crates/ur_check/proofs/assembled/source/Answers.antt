use Rattle.std.proofs.Common.{refl, sym, subst}
use Rattle.ur_check.specs.Views.{IsSourceOf}
use Rattle.ur_check.proofs.Making.{is-source}
use Rattle.ur_check.proofs.assembled.source.Goals as goal

pub returns : goal.returns
returns c =
    subst (IsSourceOf c.args.names.now c.args.world c.args.bodies c.args.routes) (sym c.put.ensures)
    (is-source c.args.names.now c.args.world c.with_bodies.new.world c.args.bodies c.args.routes _ c.in_ok-found.ensures.rest c.in_ok-modules.ensures refl refl refl refl refl c.in_ok-found.ensures.types c.in_ok-found.ensures.sides c.in_ok-found.ensures.heads
    c.in_ok-found.ensures.bodies c.in_ok-stated.ensures.queries c.in_ok-stated.ensures.changes refl refl)
