use Rattle.ur_keeper_kept.proofs.GrowingStores.{first-grows, text-grows}
use Rattle.std.proofs.Common.{◌≡◌, Option, subst}
use Rattle.ur_base.specs.Told.{WhereTold}
use Rattle.ur_keeper_bodies.specs.Bodies.{BodyMap}
use Rattle.ur_keeper_bodies.specs.declared.stored.Layout.{Layout}
use Rattle.ur_keeper_kept.specs.Laid.{IsLaidBy}
use Rattle.ur_keeper_kept.proofs.growing.changes_of.Goals as goal

pub rewriting-requires-clause-laid : goal.rewriting-requires-clause-laid
rewriting-requires-clause-laid g c =
    subst (λ (layout : Layout). WhereTold (g.B.Bodies.bodies c.args.stock.now.bodies) (IsLaidBy layout c.args.kept.now)) c.in-One.is c.requires.laid

pub returns-in_ok-changes-in-One-clause-changes : goal.returns-in_ok-changes-in-One-clause-changes
returns-in_ok-changes-in-One-clause-changes g c =
    first-grows c.args.layout c.args.schema.now c.args.kept.now _ c.in_ok-changes-in-One.changes c.in-One.is c.in_ok-changes-in-One.ensures.changes

pub returns-in_ok-changes-in-Two-clause-changes : goal.returns-in_ok-changes-in-Two-clause-changes
returns-in_ok-changes-in-Two-clause-changes g c =
    text-grows c.args.layout c.args.schema.now c.args.kept.now _ c.in_ok-changes-in-Two.changes c.in-Two.is c.in_ok-changes-in-Two.ensures
